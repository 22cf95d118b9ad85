-- The next identity in dispute, where identities that were settled are passed over, and its dispute.
use Rattle.std.proofs.Common.{◌≡◌, ◌∙◌, ◌+◌, ℕ, List, [], ◌∷◌, ◌++◌, true, false, not, true≢false}
use Rattle.std.proofs.Common.{None, Some, Ok, map, sym, ap, subst, All, Option, Bool, ◌&&◌, ◌||◌}
use Rattle.std.proofs.Common.{refl}
use Rattle.book_model.proofs.Std.{All-map}
use Rattle.book_model.specs.Words.{Book, Disputed, IsDay, IsDispute, Naming, Outcome}
use Rattle.book_model.specs.Words.{dispute_outcome, dispute_shown, is_from}
use Rattle.book_model.proofs.FromLemmas.{after_others, from_then, longer_from, next_from, same_from}
use Rattle.table_model.specs.Words.{Tables, tables_of, FindsDisputed, NamedRow, is_unsettled}
use Rattle.table_model.specs.Words.{variant_read, IsReadable}
use Rattle.table_model.specs.DisputesRead.{IsDisputedFrom, IsNextDisputed}
use Rattle.table_model.proofs.DisputeLemmas.{disputes_follow}
use Rattle.tree_tables.specs.Answers.{IsNextUncharged, IsUnchargedFrom}
use Rattle.table_ledger.proofs.Words.{View, Dispute, Variant, ListsSharing}
use Rattle.table_ledger.proofs.Words.{stored_entry, StoredRecord, IsIdentity, IsShownRow, IsAt}
use Rattle.table_ledger.specs.DisputeReads.{dispute_made, is_settled_in}
use Rattle.table_ledger.specs.declared.summary.Summary.{Summary}

-- ---- identities that are passed over

-- neither of two tests holds where not one of them does
neither : (a b : Bool) → (not a && not b) ≡ not (a || b)
neither true b = refl
neither false b = refl

-- a row's identity is in dispute where it is not settled
pub unsettled_is : (tables : Tables) (row : NamedRow)
    → is_unsettled tables row ≡ not (is_settled_in tables row.1.identity)
unsettled_is tables row = neither _ _

-- What is known where a walk has come to some bytes: they are from its first ones on, and each row in
-- dispute from there on is from them on.
pub record PassedTo (from at : List ℕ) (tables : Tables) : Type 0 where
  pub beyond : is_from from at ≡ true
  pub passed : (row : NamedRow) → IsDisputedFrom from tables row
      → is_from at row.1.identity ≡ true

-- none is passed at first
pub passed_none : (from : List ℕ) (tables : Tables) → PassedTo from from tables
passed_none from tables = record { beyond = same_from from; passed = λ row is. is.reached }

module _ (from at : List ℕ) (tables : Tables) (so_far : PassedTo from at tables) where
  -- a row in dispute is not charged
  not_charged : (row : NamedRow) → IsDisputedFrom from tables row
      → IsUnchargedFrom at tables row
  not_charged row is =
      record { there = is.there; uncharged = is.uncharged; reached = so_far.passed row is }

  module _ (identity : List ℕ) (next : IsNextUncharged at tables identity) where
    -- the next identity is from the first bytes on
    identity_from : is_from from identity ≡ true
    identity_from =
        from_then from at identity so_far.beyond
        (ap (is_from at) (sym next.own) ∙ next.uncharged.reached)

    -- it is in dispute where it is not settled
    pub next_is : is_settled_in tables identity ≡ false → IsNextDisputed from tables identity
    next_is open_still = record {
      row = next.row;
      disputed = record {
        there = next.uncharged.there;
        uncharged = next.uncharged.uncharged;
        unsettled = unsettled_is tables next.row
            ∙ ap (λ k. not (is_settled_in tables k)) next.own ∙ ap not open_still;
        reached = ap (is_from from) next.own ∙ identity_from;
      };
      own = next.own;
      least = λ row is. next.least row (not_charged row is);
    }

    -- and else it is passed
    pub passed_on : (more : List ℕ) → more ≡ identity ++ 0 ∷ []
        → is_settled_in tables identity ≡ true → PassedTo from more tables
    passed_on more is_more settled =
        subst (λ at. PassedTo from at tables) (sym is_more) (record {
          beyond = from_then from identity (identity ++ 0 ∷ []) identity_from
              (longer_from identity);
          passed = λ row is. next_from identity row.1.identity
              (after_others identity row.1.identity (next.least row (not_charged row is))
              (λ same. true≢false (sym is.unsettled ∙ unsettled_is tables row
              ∙ ap (λ k. not (is_settled_in tables k)) same ∙ ap not settled)));
        })

-- ---- the dispute of an identity

-- a dispute of an identity and of records that can be shown can be shown
pub made_shows : (made : Dispute) (identity : List ℕ) (rows : List StoredRecord)
    → dispute_shown made ≡ dispute_made identity rows → IsIdentity identity
    → All (λ (row : StoredRecord). IsShownRow (stored_entry row)) rows
    → IsDispute (dispute_shown made)
made_shows made identity rows is long shown =
    subst IsDispute (sym is) (record {
      identity = long;
      days = All-map (λ (member : Variant). IsDay member.priced.day) variant_read
          (map stored_entry rows) (All-map (λ (row : NamedRow). IsDay row.1.priced.day) stored_entry
          rows (λ k any within. (shown k any within).day));
    })

-- ---- the answer

module _ {naming : Naming} {summary : Summary} {view : View} {book : Book}
    (at : IsAt naming summary view book) (from : List ℕ) where
  whole : IsReadable naming book
  whole = at.kept.readable

  -- no dispute is left
  pub none_left : FindsDisputed from (tables_of naming book) None
      → (dispute_outcome naming from book).answer ≡ Ok None
  none_left none =
      ap (λ (of : Outcome (Option Disputed)). of.answer)
      (disputes_follow.next naming book from None whole none)

  -- or this one is the first
  pub one_left : (identity : List ℕ) (made : Dispute) (rows : List StoredRecord)
      → FindsDisputed from (tables_of naming book) (Some identity)
      → ListsSharing identity (tables_of naming book) rows
      → dispute_shown made ≡ dispute_made identity rows
      → (dispute_outcome naming from book).answer ≡ Ok (Some (dispute_shown made))
  one_left identity made rows next lists is =
      ap (λ (of : Outcome (Option Disputed)). of.answer)
      (disputes_follow.next naming book from (Some identity) whole next)
      ∙ ap (λ (one : Disputed). Ok (Some one))
      ((λ i. record { identity = identity; members = map variant_read (sym lists i) }) ∙ sym is)
