-- The trail of a record that is tried: what is answered.
use Rattle.std.proofs.Common.{◌≡◌, ◌∙◌, ℕ, List, sym, ap, subst, Option, None, Some, Ok, Err, map}
use Rattle.std.proofs.Common.{All, ok_or, option_map}
use Rattle.book_model.proofs.Std.{get, All-map}
use Rattle.book_model.specs.declared.fault.LedgerFault.TheVariants.{NoSuchRecord}
use Rattle.book_model.specs.declared.trail.Trail.{Trail}
use Rattle.book_model.specs.Words.{Reckoning, AcceptedTerms, Book, IsDay, Naming, Outcome, Rulings}
use Rattle.book_model.specs.Words.{TrailSeen, day_of, in_force, period_on, reckoning_by}
use Rattle.book_model.specs.Words.{reckoning_in, record_with, trail_outcome, trail_shown}
use Rattle.book_core.specs.Words.{ruled_in}
use Rattle.table_model.specs.Words.{Tables, tables_of, rows_with, NamedRow, variant_read}
use Rattle.table_model.specs.Words.{choices_with, life_read}
use Rattle.table_model.specs.TrailRead.{trail_at, trail_read, trail_row}
use Rattle.table_model.proofs.TrailLemmas.{trails_follow}
use Rattle.table_ledger.proofs.Words.{View, Variant, FindsRecord, stored_entry, StoredRecord}
use Rattle.table_ledger.proofs.Words.{IsShownRow, IsAt}
use Rattle.table_ledger.specs.declared.summary.Summary.{Summary}
use Rattle.table_ledger.proofs.AcceptTries.{none_found}
use Rattle.table_ledger.proofs.LineReadings.{found_row}
use Rattle.table_ledger.proofs.Remembered.{rulings_are}

-- ---- the records of an identity

-- records that can be shown are dated on days, as they are shown
pub members_dated : (rows : List StoredRecord)
    → All (λ (row : StoredRecord). IsShownRow (stored_entry row)) rows
    → (members : List Variant) → members ≡ map variant_read (map stored_entry rows)
    → All (λ (member : Variant). IsDay member.priced.day) members
members_dated rows shown members are =
    subst (All (λ (member : Variant). IsDay member.priced.day)) (sym are)
    (All-map (λ (member : Variant). IsDay member.priced.day) variant_read (map stored_entry rows)
    (All-map (λ (row : NamedRow). IsDay row.1.priced.day) stored_entry rows
    (λ k any within. (shown k any within).day)))

-- ---- the answer

-- how the price of the record that was read comes about
pub reckoned_is : {by told : Option Reckoning} {tariffs : List AcceptedTerms} {usage bytes : List ℕ}
    (ruled : Rulings)
    → by ≡ option_map (λ terms. reckoning_by terms usage) (in_force (day_of usage) tariffs)
    → tariffs ≡ ruled.tariffs → usage ≡ bytes → by ≡ told → told ≡ reckoning_in ruled bytes
reckoned_is ruled value its same is =
    sym is ∙ value
    ∙ (λ i. option_map (λ terms. reckoning_by terms (same i)) (in_force (day_of (same i)) (its i)))

module _ {naming : Naming} {summary : Summary} {view : View} {book : Book}
    (at : IsAt naming summary view book) (name : List ℕ) where
  abbrev kept : Tables
  kept = tables_of naming book

  abbrev ruled : Rulings
  ruled = ruled_in summary.rulings

  -- is read from the tables, by what is remembered
  by_tables : (trail_outcome naming name book).answer ≡ trail_read ruled kept name
  by_tables =
      ap (λ (of : Outcome TrailSeen). of.answer)
      (trails_follow naming book name at.kept.readable)
      ∙ ap (λ (rulings : Rulings). trail_read rulings kept name) (rulings_are at.remembers)

  -- no record has the name
  pub no_record : FindsRecord name kept None
      → (trail_outcome naming name book).answer ≡ Err NoSuchRecord
  no_record finds =
      by_tables ∙ ap (trail_at ruled kept name) (none_found name (get kept.records name) finds)

  -- or one has, and its price came about so, or not at all
  pub by_stored : (stored : StoredRecord) (by : Option Reckoning)
      → FindsRecord name kept (Some stored)
      → by ≡ reckoning_in ruled (record_with stored.data_bytes.items)
      → (trail_outcome naming name book).answer
      ≡ ok_or (option_map (trail_row ruled kept (stored_entry stored)) by) NoSuchRecord
  by_stored stored by finds is =
      let found = found_row name stored (get kept.records name) finds in
      by_tables ∙ ap (trail_at ruled kept name) found.0
      ∙ (λ i. ok_or (option_map (trail_row ruled kept (found.1 i, (stored_entry stored).1))
      (sym is i)) NoSuchRecord)

  -- so this is its trail
  pub is_trail : (stored : StoredRecord) (trail : Trail) → FindsRecord name kept (Some stored)
      → Some trail.reckoning ≡ reckoning_in ruled (record_with stored.data_bytes.items)
      → trail.bytes.items ≡ record_with stored.data_bytes.items
      → trail.period ≡ period_on ruled.closes stored.priced.day
      → trail.members.items ≡ map variant_read (rows_with stored.identity.items kept.records)
      → trail.choices.items ≡ choices_with stored.identity.items kept
      → trail.life.items ≡ life_read ruled kept.lines (stored_entry stored)
      → (trail_outcome naming name book).answer ≡ Ok (trail_shown trail)
  is_trail stored trail finds reckoned bytes period members choices life =
      by_stored stored (Some trail.reckoning) finds reckoned
      ∙ (λ i. Ok (record {
        bytes = sym bytes i;
        period = sym period i;
        reckoning = trail.reckoning;
        members = sym members i;
        choices = sym choices i;
        life = sym life i;
      }))
