-- The text after which a joiner stands determines what it answers to a piece, and which record
-- stands then: the promises of an answer leave no choice.
use Rattle.std.proofs.Common.{◌≡◌, ℕ, ◌≤◌, ◌<◌, List, [], ◌∷◌, ◌++◌, length, take, refl, sym, ap}
use Rattle.std.proofs.Common.{◌∙◌, arith, length-append, subst, Option, Some, None, Ok, Err}
use Rattle.std.proofs.Common.{inl, inr}
use Rattle.std.specs.Option.{option_to_list}
use Rattle.std.proofs.lemmas.Bool.{cases_order}
use Rattle.smf_frames.specs.Front.{front}
use Rattle.smf_frames.specs.Joining.{Joining, HasTaken, broken_by}
use Rattle.smf_frames.specs.Feeding.{Feeds, FeedIsDetermined}

-- the same list with one more element is not that list
none_more : (records : List (List ℕ)) (ready : Option (List ℕ))
    → records ++ option_to_list ready ≡ records → ready ≡ None
none_more records None is = refl
none_more records (Some one) is =
    absurd (omega (arith, ap length is, length-append records (one ∷ [])))

-- lists with at most one more element are alike only where that is alike
same_more : (records : List (List ℕ)) (one two : Option (List ℕ))
    → records ++ option_to_list one ≡ records ++ option_to_list two → one ≡ two
same_more [] None None is = refl
same_more [] None (Some b) is = absurd cc
same_more [] (Some a) None is = absurd cc
same_more [] (Some a) (Some b) is = cc
same_more (x ∷ xs) one two is = same_more xs one two cc

-- no answer takes less than another
less_is_all : (text piece : List ℕ) (old new : Joining) (n m : ℕ)
    → HasTaken text old → old.ready ≡ None → Feeds old piece (Ok n) new
    → m ≤ length piece
    → (front old.layout (text ++ take n piece)).records ≡ (front old.layout text).records
    → n < m → {A : Type 0} → A
less_is_all text piece old new n m stands none feeds within same less =
    let gone = none_more (front old.layout text).records new.ready
    (sym (feeds.records text stands none) ∙ same) in
    let all = feeds.all gone in
    absurd (omega arith)

-- the answers are alike, and so are the records that stand then
pub determined : FeedIsDetermined
determined text piece one other one_now other_now (Err fault) answer layout_is stands other_stands
    none other_none feeds other_feeds =
    let breaks =
    subst (λ l. front l (text ++ piece) ≡ broken_by (front l text).records fault) layout_is
    ((feeds.fault text fault stands none).0 refl) in
    let is = (other_feeds.fault text fault other_stands other_none).1 breaks in
    let last = subst (λ given. Feeds other piece given other_now) is other_feeds in
    (sym is, feeds.broken.1 ∙ sym last.broken.1)
determined text piece one other one_now other_now (Ok n) (Err fault) layout_is stands other_stands
    none other_none feeds other_feeds =
    let breaks =
    subst (λ l. front l (text ++ piece) ≡ broken_by (front l text).records fault) (sym layout_is)
    ((other_feeds.fault text fault other_stands other_none).0 refl) in
    let is = (feeds.fault text fault stands none).1 breaks in
    absurd cc
determined text piece one other one_now other_now (Ok n) (Ok m) layout_is stands other_stands
    none other_none feeds other_feeds =
    let found : List (List ℕ) = (front one.layout text).records in
    elim (cases_order n m) [
      | inl same ↦ (
        ap Ok same,
        same_more found one_now.ready other_now.ready
            (sym (feeds.records text stands none)
            ∙ ap (λ k. (front one.layout (text ++ take k piece)).records) same
            ∙ subst (λ l. (front l (text ++ take m piece)).records
            ≡ (front l text).records ++ option_to_list other_now.ready) (sym layout_is)
            (other_feeds.records text other_stands other_none)),
      )
      | inr (inl less) ↦ less_is_all text piece one one_now n m stands none feeds
          other_feeds.within
          (subst (λ l. (front l (text ++ take n piece)).records ≡ (front l text).records)
          (sym layout_is) (other_feeds.soonest text n other_stands less)) less
      | inr (inr more) ↦ less_is_all text piece other other_now m n other_stands other_none
          other_feeds feeds.within
          (subst (λ l. (front l (text ++ take m piece)).records ≡ (front l text).records)
          layout_is (feeds.soonest text m stands more)) more
    ]
