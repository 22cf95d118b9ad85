-- A text that takes the place of a tariff: which tariffs are in force then, what has a price, and the
-- books that there would be, had it come in that place.
use Rattle.std.proofs.Common.{◌≡◌, ℕ, List, [], ◌∷◌, ◌++◌, refl, sym, ap, ◌∙◌, cond, true, false}
use Rattle.std.proofs.Common.{true≢false, not, ◌&&◌, ◌||◌, Option, Some, None, is_some, ℤ}
use Rattle.std.proofs.Common.{int_lt, filter, map, IsSome, option_map, arith, Bool, suc, length}
use Rattle.std.proofs.Common.{◌+◌, ◌<◌, if◌then◌else◌, slice_index_or, slice_set}
use Rattle.std.proofs.lemmas.Bool.Decides.{Decides-int_eq}
use Rattle.std.specs.List.{position_or_len}
use Rattle.std.specs.Ordering.{int_eq}
use Rattle.book_model.proofs.Std.{false_from_ne_true, ints, list_all, list_any, map-append}
use Rattle.book_model.proofs.Std.{option_map_or}
use Rattle.book_model.specs.Words.{AcceptedTerms, Book, Event, PeriodClosed, RecordKept}
use Rattle.book_model.specs.Words.{RulingGiven, Rulings, Terms, after, after_all, are_rising}
use Rattle.book_model.specs.Words.{day_of}
use Rattle.book_model.specs.Words.{give, has_begun, is_after, is_dated_after, is_effective}
use Rattle.book_model.specs.Words.{is_under, last_close, latest, or_new, price_by, price_in, Priced}
use Rattle.book_model.specs.Words.{with_replaced, CreditGiven, RecordChosen, SecondRuleAdopted}
use Rattle.book_model.specs.Words.{TariffAccepted, TariffReplaced, WorkWithheld}
use Rattle.book_model.specs.Words.{ImportBegun, ImportEnded, ImportRead}
use Rattle.book_model.specs.Rulings.{later_of}
use Rattle.book_model.specs.Laws.{AreElsewhere, IsElsewhere, ReplacedAsGiven, ReplacedPricesStay}
use Rattle.book_model.specs.Laws.{unlisted}
use Rattle.book_model.proofs.RecordSets.{first_of, second_of}
use Rattle.book_model.proofs.TestLemmas.{replace_passes}

module _ (new : AcceptedTerms) where
  -- its first day
  abbrev day : ℤ
  day = new.terms.effective

  -- it begins on the first day of the tariff whose place it takes
  pub same_day : (tariff : AcceptedTerms)
      → (or_new new tariff).terms.effective ≡ tariff.terms.effective
  same_day tariff =
      elim (is_effective day tariff) as (λ b. is_effective day tariff ≡ b
      → (cond b new tariff).terms.effective ≡ tariff.terms.effective) [
        | true ↦ λ same. (Decides-int_eq day tariff.terms.effective).0 same
        | false ↦ λ other. refl
      ] refl

  -- so it has begun where that had
  begun-map : (at : ℤ) (tariffs : List AcceptedTerms)
      → filter (has_begun at) (map (or_new new) tariffs)
      ≡ map (or_new new) (filter (has_begun at) tariffs)
  begun-map at [] = refl
  begun-map at (tariff ∷ tariffs) =
      let rest = begun-map at tariffs in
      (λ i. cond (not (int_lt at (same_day tariff i)))
      (or_new new tariff ∷ rest i) (rest i))
      ∙ elim (has_begun at tariff) as (λ b.
      cond b (or_new new tariff ∷ map (or_new new) (filter (has_begun at) tariffs))
      (map (or_new new) (filter (has_begun at) tariffs))
      ≡ map (or_new new) (cond b (tariff ∷ filter (has_begun at) tariffs)
      (filter (has_begun at) tariffs))) [ true ↦ refl | false ↦ refl ]

  -- of tariffs, the one in the place of the latest is the latest
  latest-map : (tariffs : List AcceptedTerms)
      → latest (map (or_new new) tariffs) ≡ option_map (or_new new) (latest tariffs)
  latest-map [] = refl
  latest-map (tariff ∷ tariffs) =
      ap (λ found. Some (option_map_or (later_of (or_new new tariff)) found (or_new new tariff)))
      (latest-map tariffs)
      ∙ elim (latest tariffs) as (λ found.
      ◌≡◌ {A = Option AcceptedTerms} (Some (option_map_or (later_of (or_new new tariff))
      (option_map (or_new new) found) (or_new new tariff)))
      (Some (or_new new (option_map_or (later_of tariff) found tariff)))) [
        | None ↦ refl
        | Some other ↦
            (λ i. Some (cond (int_lt (same_day tariff i) (same_day other i)) (or_new new other)
            (or_new new tariff)))
            ∙ elim (int_lt tariff.terms.effective other.terms.effective) as (λ b.
            ◌≡◌ {A = Option AcceptedTerms} (Some (cond b (or_new new other) (or_new new tariff)))
            (Some (or_new new (cond b other tariff)))) [ true ↦ refl | false ↦ refl ]
      ]

  -- so the tariff in force on a day is the one in the place of the one that was
  pub replaced_in_force : (at : ℤ) (tariffs : List AcceptedTerms)
      → latest (filter (has_begun at) (map (or_new new) tariffs))
      ≡ option_map (or_new new) (latest (filter (has_begun at) tariffs))
  replaced_in_force at tariffs =
      ap latest (begun-map at tariffs) ∙ latest-map (filter (has_begun at) tariffs)

  -- before its first day they are what they were
  early_begun : (at : ℤ) → int_lt at day ≡ true → (tariffs : List AcceptedTerms)
      → filter (has_begun at) (map (or_new new) tariffs) ≡ filter (has_begun at) tariffs
  early_begun at early [] = refl
  early_begun at early (tariff ∷ tariffs) =
      let rest = early_begun at early tariffs in
      elim (is_effective day tariff) as (λ b. is_effective day tariff ≡ b
      → cond (has_begun at (cond b new tariff))
      (cond b new tariff ∷ filter (has_begun at) (map (or_new new) tariffs))
      (filter (has_begun at) (map (or_new new) tariffs))
      ≡ cond (has_begun at tariff) (tariff ∷ filter (has_begun at) tariffs)
      (filter (has_begun at) tariffs)) [
        | true ↦ λ same.
            let its : int_lt at tariff.terms.effective ≡ true =
            ap (int_lt at) (sym ((Decides-int_eq day tariff.terms.effective).0 same)) ∙ early in
            let now : List AcceptedTerms = filter (has_begun at) (map (or_new new) tariffs) in
            let before : List AcceptedTerms = filter (has_begun at) tariffs in
            ap (λ b. cond (not b) (new ∷ now) now) early
            ∙ rest
            ∙ sym (ap (λ b. cond (not b) (tariff ∷ before) before) its)
        | false ↦ λ other. λ i. cond (has_begun at tariff) (tariff ∷ rest i) (rest i)
      ] refl

  -- and they rise as they did
  rising_after : (tariff : AcceptedTerms) (tariffs : List AcceptedTerms)
      → list_all (λ later. int_lt (or_new new tariff).terms.effective later.terms.effective)
      (map (or_new new) tariffs)
      ≡ list_all (λ later. int_lt tariff.terms.effective later.terms.effective) tariffs
  rising_after tariff [] = refl
  rising_after tariff (other ∷ tariffs) =
      let rest = rising_after tariff tariffs in
      λ i. int_lt (same_day tariff i) (same_day other i) && rest i

  rising-map : (tariffs : List AcceptedTerms)
      → are_rising (map (or_new new) tariffs) ≡ are_rising tariffs
  rising-map [] = refl
  rising-map (tariff ∷ tariffs) =
      let rest = rising-map tariffs in
      λ i. rising_after tariff tariffs i && rest i

  pub replaced_rising : (tariffs : List AcceptedTerms) → are_rising tariffs ≡ true
      → are_rising (map (or_new new) tariffs) ≡ true
  replaced_rising tariffs rise = rising-map tariffs ∙ rise

-- a function gives something where there is something
some_map : {X Y : Type 0} (f : X → Y) (found : Option X) → is_some (option_map f found)
    ≡ is_some found
some_map f None = refl
some_map f (Some x) = refl

-- what some tariff prices has a price
some_priced : (bytes : List ℕ) (found : Option AcceptedTerms)
    → is_some (option_map (λ terms. price_by terms bytes)
    (option_map (λ (tariff : AcceptedTerms). tariff.terms) found)) ≡ is_some found
some_priced bytes None = refl
some_priced bytes (Some tariff) = refl

-- so what has a price has one where a tariff is replaced
pub replaced_price_still : (rulings : Rulings) (text : List ℕ) (terms : Terms) (bytes : List ℕ)
    → IsSome (price_in rulings bytes) → IsSome (price_in (with_replaced text terms rulings) bytes)
replaced_price_still rulings text terms bytes there =
    let new : AcceptedTerms = record { text = Some text; terms = terms } in
    let found : Option AcceptedTerms =
    latest (filter (has_begun (day_of bytes)) rulings.tariffs) in
    some_priced bytes (latest (filter (has_begun (day_of bytes)) (map (or_new new) rulings.tariffs)))
    ∙ ap is_some (replaced_in_force new (day_of bytes) rulings.tariffs)
    ∙ some_map (or_new new) found
    ∙ sym (some_priced bytes found)
    ∙ there

-- what a record costs where a tariff is replaced: what the text says, if its day had that tariff
pub replaced_price : (rulings : Rulings) (text : List ℕ) (terms : Terms) (bytes : List ℕ)
    → price_in (with_replaced text terms rulings) bytes
    ≡ (if is_under rulings.tariffs terms (day_of bytes) then Some (price_by terms bytes)
    else price_in rulings bytes)
replaced_price rulings text terms bytes =
    let new : AcceptedTerms = record { text = Some text; terms = terms } in
    let of_terms : Option AcceptedTerms → Option Terms =
    option_map (λ (tariff : AcceptedTerms). tariff.terms) in
    ap (λ found. option_map (λ terms. price_by terms bytes) (of_terms found))
    (replaced_in_force new (day_of bytes) rulings.tariffs)
    ∙ by_found (latest (filter (has_begun (day_of bytes)) rulings.tariffs))
  where
    by_found : (found : Option AcceptedTerms)
        → option_map (λ terms. price_by terms bytes)
        (option_map (λ (tariff : AcceptedTerms). tariff.terms)
        (option_map (or_new (record { text = Some text; terms = terms })) found))
        ≡ (if option_map_or (λ (own : Terms). int_eq terms.effective own.effective)
        (option_map (λ (tariff : AcceptedTerms). tariff.terms) found) false
        then Some (price_by terms bytes)
        else option_map (λ terms. price_by terms bytes)
        (option_map (λ (tariff : AcceptedTerms). tariff.terms) found))
    by_found None = refl
    by_found (Some tariff) =
        elim (int_eq terms.effective tariff.terms.effective) as (λ b.
        ◌≡◌ {A = Option Priced} (Some (price_by (cond b (record { text = Some text; terms = terms })
        tariff).terms bytes))
        (if b then Some (price_by terms bytes) else Some (price_by tariff.terms bytes)))
        [ true ↦ refl | false ↦ refl ]

-- a day that is not after the last close is before a day that is
before_it : (last : Option ℤ) (bytes : List ℕ) (day : ℤ) → is_dated_after last bytes ≡ false
    → is_after last day ≡ true → int_lt (day_of bytes) day ≡ true
before_it None bytes day early after = absurd (true≢false early)
before_it (Some close) bytes day early after = grind (arith, ints)

-- the law of prices that are settled
pub replaced_prices_stay : ReplacedPricesStay
replaced_prices_stay book text terms bytes done settled =
    let new : AcceptedTerms = record { text = Some text; terms = terms } in
    let later = (replace_passes book text terms done).later in
    ap (λ begun. option_map (λ terms. price_by terms bytes)
    (option_map (λ (tariff : AcceptedTerms). tariff.terms) (latest begun)))
    (early_begun new (day_of bytes)
    (before_it (last_close book.rulings) bytes terms.effective settled later)
    book.rulings.tariffs)

-- ---- the books that there would be

-- tariffs of which none begins on the day stay
pub none-new : (new : AcceptedTerms) (tariffs : List AcceptedTerms)
    → list_any (is_effective new.terms.effective) tariffs ≡ false
    → map (or_new new) tariffs ≡ tariffs
none-new new [] none = refl
none-new new (tariff ∷ tariffs) none =
    elim (is_effective new.terms.effective tariff) as (λ b.
    (b || list_any (is_effective new.terms.effective) tariffs) ≡ false
    → cond b new tariff ∷ map (or_new new) tariffs ≡ tariff ∷ tariffs) [
      | true ↦ λ none. absurd (true≢false none)
      | false ↦ λ none. ap (λ rest. tariff ∷ rest) (none-new new tariffs none)
    ] none

-- tariffs that begin later than a day do not begin on it
pub none_later : (day : ℤ) (tariff : AcceptedTerms) (tariffs : List AcceptedTerms)
    → is_effective day tariff ≡ true
    → list_all (λ later. int_lt tariff.terms.effective later.terms.effective) tariffs ≡ true
    → filter (is_effective day) tariffs ≡ []
none_later day tariff [] same all = refl
none_later day tariff (later ∷ tariffs) same all =
    let rest = list_all (λ other. int_lt tariff.terms.effective other.terms.effective) tariffs in
    let after = first_of (int_lt tariff.terms.effective later.terms.effective) rest all in
    let at = (Decides-int_eq day tariff.terms.effective).0 same in
    let apart : is_effective day later ≡ false =
    false_from_ne_true (is_effective day later) (λ too.
    let also = (Decides-int_eq day later.terms.effective).0 too in
    grind (arith, ints, after, at, also)) in
    ap (λ b. cond b (later ∷ filter (is_effective day) tariffs) (filter (is_effective day) tariffs))
    apart
    ∙ none_later day tariff tariffs same
    (second_of (int_lt tariff.terms.effective later.terms.effective) rest all)

-- where nothing passes a test, none does
none_passes : {X : Type 0} (p : X → Bool) (xs : List X) → filter p xs ≡ [] → list_any p xs ≡ false
none_passes p [] none = refl
none_passes p (x ∷ xs) none =
    elim (p x) as (λ b. cond b (x ∷ filter p xs) (filter p xs) ≡ []
    → (b || list_any p xs) ≡ false) [
      | true ↦ λ none. cc
      | false ↦ λ none. none_passes p xs none
    ] none

-- ---- the one tariff that begins on the day, of tariffs that rise

module _ (new : AcceptedTerms) where
  abbrev on_day : AcceptedTerms → Bool
  on_day = is_effective new.terms.effective

  -- those behind the first that begins on it do not
  none_behind : (tariff : AcceptedTerms) (tariffs : List AcceptedTerms) → on_day tariff ≡ true
      → are_rising (tariff ∷ tariffs) ≡ true → filter on_day tariffs ≡ []
  none_behind tariff tariffs same rising =
      none_later new.terms.effective tariff tariffs same
      (first_of (list_all (λ later. int_lt tariff.terms.effective later.terms.effective) tariffs)
      (are_rising tariffs) rising)

  rising_behind : (tariff : AcceptedTerms) (tariffs : List AcceptedTerms)
      → are_rising (tariff ∷ tariffs) ≡ true → are_rising tariffs ≡ true
  rising_behind tariff tariffs rising =
      second_of (list_all (λ later. int_lt tariff.terms.effective later.terms.effective) tariffs)
      (are_rising tariffs) rising

  -- one that begins on another day is passed over
  passed_over : (tariff : AcceptedTerms) (tariffs : List AcceptedTerms) → on_day tariff ≡ false
      → list_any on_day (tariff ∷ tariffs) ≡ true → list_any on_day tariffs ≡ true
  passed_over tariff tariffs other there =
      ap (λ b. b || list_any on_day tariffs) (sym other) ∙ there

  next_place : (tariffs : List AcceptedTerms)
      → 1 + position_or_len on_day tariffs ≡ suc (position_or_len on_day tariffs)
  next_place tariffs = omega arith

  -- it stands among them,
  pub place_within : (tariffs : List AcceptedTerms) → list_any on_day tariffs ≡ true
      → position_or_len on_day tariffs < length tariffs
  place_within [] there = absurd (true≢false (sym there))
  place_within (tariff ∷ tariffs) there =
      elim (on_day tariff) as (λ b. on_day tariff ≡ b
      → cond (not b) (1 + position_or_len on_day tariffs) 0 < length (tariff ∷ tariffs)) [
        | true ↦ λ same. omega arith
        | false ↦ λ other.
            let within = place_within tariffs (passed_over tariff tariffs other there) in
            omega (arith, within)
      ] refl

  -- the new one stands in its place,
  pub put_there : (tariffs : List AcceptedTerms) → are_rising tariffs ≡ true
      → list_any on_day tariffs ≡ true
      → slice_set tariffs (position_or_len on_day tariffs) new ≡ map (or_new new) tariffs
  put_there [] rising there = refl
  put_there (tariff ∷ tariffs) rising there =
      let place = position_or_len on_day tariffs in
      elim (on_day tariff) as (λ b. on_day tariff ≡ b
      → slice_set (tariff ∷ tariffs) (cond (not b) (1 + place) 0) new
      ≡ cond b new tariff ∷ map (or_new new) tariffs) [
        | true ↦ λ same.
            ap (λ rest. new ∷ rest)
            (sym (none-new new tariffs
            (none_passes on_day tariffs (none_behind tariff tariffs same rising))))
        | false ↦ λ other.
            ap (λ i. slice_set (tariff ∷ tariffs) i new) (next_place tariffs)
            ∙ ap (λ rest. tariff ∷ rest)
            (put_there tariffs (rising_behind tariff tariffs rising)
            (passed_over tariff tariffs other there))
      ] refl

  -- and it alone begins on the day
  pub took_there : (tariffs : List AcceptedTerms) → are_rising tariffs ≡ true
      → list_any on_day tariffs ≡ true → (d : AcceptedTerms)
      → filter on_day tariffs ≡ slice_index_or tariffs (position_or_len on_day tariffs) d ∷ []
  took_there [] rising there d = absurd (true≢false (sym there))
  took_there (tariff ∷ tariffs) rising there d =
      let place = position_or_len on_day tariffs in
      elim (on_day tariff) as (λ b. on_day tariff ≡ b
      → cond b (tariff ∷ filter on_day tariffs) (filter on_day tariffs)
      ≡ slice_index_or (tariff ∷ tariffs) (cond (not b) (1 + place) 0) d ∷ []) [
        | true ↦ λ same. ap (λ rest. tariff ∷ rest) (none_behind tariff tariffs same rising)
        | false ↦ λ other.
            took_there tariffs (rising_behind tariff tariffs rising)
            (passed_over tariff tariffs other there) d
            ∙ ap (λ i. slice_index_or (tariff ∷ tariffs) i d ∷ []) (sym (next_place tariffs))
      ] refl

-- ---- texts of different days

-- the days are the same in either order
day_back : (a b : ℤ) → int_eq a b ≡ false → int_eq b a ≡ false
day_back a b apart =
    elim (int_eq b a) as (λ t. int_eq b a ≡ t → t ≡ false) [
      | true ↦ λ same.
          absurd (true≢false (sym ((Decides-int_eq a b).1 (sym ((Decides-int_eq b a).0 same)))
          ∙ apart))
      | false ↦ λ differ. refl
    ] refl

-- a tariff that begins on another day stays
other-new : (new other : AcceptedTerms) → int_eq other.terms.effective new.terms.effective ≡ false
    → or_new new other ≡ other
other-new new other apart =
    ap (λ b. cond b new other) (day_back other.terms.effective new.terms.effective apart)

-- texts that take the places of tariffs of different days do so in either order
new-new : (new other : AcceptedTerms) → int_eq other.terms.effective new.terms.effective ≡ false
    → (tariffs : List AcceptedTerms)
    → map (or_new new) (map (or_new other) tariffs) ≡ map (or_new other) (map (or_new new) tariffs)
new-new new other apart [] = refl
new-new new other apart (tariff ∷ tariffs) =
    let rest = new-new new other apart tariffs in
    let own : or_new new (or_new other tariff) ≡ or_new other (or_new new tariff) =
    elim (is_effective other.terms.effective tariff) as (λ o.
    is_effective other.terms.effective tariff ≡ o
    → or_new new (cond o other tariff) ≡ or_new other (or_new new tariff)) [
      | true ↦ λ is_other.
          let at : other.terms.effective ≡ tariff.terms.effective =
          (Decides-int_eq other.terms.effective tariff.terms.effective).0 is_other in
          let not_new : is_effective new.terms.effective tariff ≡ false =
          ap (int_eq new.terms.effective) (sym at)
          ∙ day_back other.terms.effective new.terms.effective apart in
          other-new new other apart
          ∙ sym (ap (λ b. or_new other (cond b new tariff)) not_new
          ∙ ap (λ b. cond b other tariff) is_other)
      | false ↦ λ not_other.
          elim (is_effective new.terms.effective tariff) as (λ n.
          cond n new tariff ≡ or_new other (cond n new tariff)) [
            | true ↦ sym (ap (λ b. cond b other new) apart)
            | false ↦ sym (ap (λ b. cond b other tariff) not_other)
          ]
    ] refl in
    λ i. own i ∷ rest i

-- the book by other tariffs
abbrev by_tariffs : Book → List AcceptedTerms → Book
by_tariffs book tariffs = unlisted (record book { rulings = record book.rulings { tariffs = tariffs } })

module _ (new : AcceptedTerms) where
  -- the book with the text in its place
  abbrev renewed : Book → Book
  renewed book = record book {
    rulings = record book.rulings {
      tariffs = map (or_new new) book.rulings.tariffs;
      replaced = [];
    };
    journal = [];
  }

  -- an event of another day comes before or after it
  renewed_after : (event : Event) (book : Book) → IsElsewhere new.terms.effective event
      → renewed (after event book) ≡ unlisted (after event (renewed book))
  renewed_after (RecordKept bytes) book elsewhere = refl
  renewed_after (PeriodClosed said through) book elsewhere = refl
  renewed_after (ImportBegun note) book elsewhere = refl
  renewed_after (ImportRead reading) book elsewhere = refl
  renewed_after (ImportEnded ending) book elsewhere = refl
  renewed_after (RulingGiven said (TariffAccepted text terms)) book elsewhere =
      let other : AcceptedTerms = record { text = text; terms = terms } in
      ap (by_tariffs book)
      (map-append (or_new new) book.rulings.tariffs (other ∷ [])
      ∙ ap (λ last. map (or_new new) book.rulings.tariffs ++ last ∷ [])
      (other-new new other elsewhere))
  renewed_after (RulingGiven said (TariffReplaced text terms)) book elsewhere =
      ap (by_tariffs book)
      (new-new new (record { text = Some text; terms = terms }) elsewhere book.rulings.tariffs)
  renewed_after (RulingGiven said (RecordChosen bytes)) book elsewhere = refl
  renewed_after (RulingGiven said (WorkWithheld bytes)) book elsewhere = refl
  renewed_after (RulingGiven said SecondRuleAdopted) book elsewhere = refl
  renewed_after (RulingGiven said (CreditGiven centre amount reason)) book elsewhere = refl

-- no event hangs on the list of what was replaced
unlisted_after : (event : Event) (book : Book)
    → unlisted (after event (unlisted book)) ≡ unlisted (after event book)
unlisted_after (RecordKept bytes) book = refl
unlisted_after (PeriodClosed said through) book = refl
unlisted_after (ImportBegun note) book = refl
unlisted_after (ImportRead reading) book = refl
unlisted_after (ImportEnded ending) book = refl
unlisted_after (RulingGiven said (TariffAccepted text terms)) book = refl
unlisted_after (RulingGiven said (TariffReplaced text terms)) book = refl
unlisted_after (RulingGiven said (RecordChosen bytes)) book = refl
unlisted_after (RulingGiven said (WorkWithheld bytes)) book = refl
unlisted_after (RulingGiven said SecondRuleAdopted) book = refl
unlisted_after (RulingGiven said (CreditGiven centre amount reason)) book = refl

-- nor do several
unlisted_all : (events : List Event) (book : Book)
    → unlisted (after_all events (unlisted book)) ≡ unlisted (after_all events book)
unlisted_all [] book = refl
unlisted_all (event ∷ older) book =
    sym (unlisted_after event (after_all older (unlisted book)))
    ∙ ap (λ before. unlisted (after event before)) (unlisted_all older book)
    ∙ unlisted_after event (after_all older book)

-- so the text comes before or after events of other days
renewed_all : (new : AcceptedTerms) (events : List Event) (book : Book)
    → AreElsewhere new.terms.effective events
    → renewed new (after_all events book) ≡ unlisted (after_all events (renewed new book))
renewed_all new [] book elsewhere = refl
renewed_all new (event ∷ older) book elsewhere =
    renewed_after new event (after_all older book) elsewhere.0
    ∙ ap (λ before. unlisted (after event before)) (renewed_all new older book elsewhere.1)
    ∙ unlisted_after event (after_all older (renewed new book))

-- the law of it
pub replaced_as_given : ReplacedAsGiven
replaced_as_given before between text terms new_text new same none elsewhere =
    let old : AcceptedTerms = record { text = text; terms = terms } in
    let it : AcceptedTerms = record { text = Some new_text; terms = new } in
    let takes : or_new it old ≡ it =
    ap (λ b. cond b it old)
    ((Decides-int_eq new.effective terms.effective).1 (sym same)) in
    let tariffs = map-append (or_new it) before.rulings.tariffs (old ∷ [])
    ∙ (λ i. none-new it before.rulings.tariffs none i ++ takes i ∷ []) in
    renewed_all it between (give (TariffAccepted text terms) before) elsewhere
    ∙ ap (λ first. unlisted (after_all between (by_tariffs before first))) tariffs
    ∙ unlisted_all between (give (TariffAccepted (Some new_text) new) before)
