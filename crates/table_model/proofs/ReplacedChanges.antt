-- The tables of a book where a text takes the place of a tariff are those without it after a walk.
use Rattle.std.proofs.Common.{◌≡◌, ◌+◌, ℕ, List, [], ◌∷◌, ◌++◌, refl, sym, ap, ◌∙◌, true, false}
use Rattle.std.proofs.Common.{true≢false, inl, inr, cond, not, ◌||◌, Bool, Option, Some, None, Ok}
use Rattle.std.proofs.Common.{arith, ℤ, int_lt, if◌then◌else◌, int_cmp, map, filter}
use Rattle.std.proofs.Common.{filter_map, option_map, sum_by, length, nat_cmp, All, subst}
use Rattle.std.proofs.lemmas.Bool.Decides.{Decides-int_eq}
use Rattle.std.specs.Ordering.{int_eq}
use Rattle.std.specs.FinMap.{find}
use Rattle.book_model.proofs.Std.{int_cmp_total, from_entries, int_cmp-IsAntisymmetric, get}
use Rattle.book_model.proofs.Std.{insert, list_all, list_any, false_from_ne_true, same_Some, ints}
use Rattle.book_model.proofs.Std.{map-append, option_map_or, get-from_entries, values, entries}
use Rattle.book_model.proofs.Std.{cons_option, fold-map, sum_by-IsPermutation, sum_by-cons, All-head}
use Rattle.book_model.proofs.Std.{All-tail, length-map}
use Rattle.book_model.specs.declared.answer.Ruled.TheVariants.{Done}
use Rattle.book_model.specs.Words.{day_of, Terms, price_by, total_of, Book, open_number, charged_of}
use Rattle.book_model.specs.Words.{is_dated_after, is_undisputed, give, TariffReplaced, Records}
use Rattle.book_model.specs.Words.{Naming, name_of, is_effective, replace_answer, Rulings, has_begun}
use Rattle.book_model.specs.Words.{AcceptedTerms, price_in, with_replaced, identity_by, last_close}
use Rattle.book_model.specs.Words.{has, IsSound, AreAmong, Priced, is_after, are_rising, latest}
use Rattle.book_model.specs.Words.{is_under, members, or_new, Replaced, replaced_in, IsPriced}
use Rattle.book_model.specs.Rulings.{later_of}
use Rattle.book_model.proofs.Lemmas.{in_those, steps_stay_sound, first_of, second_of}
use Rattle.book_model.proofs.MapLemmas.{from_entries-insert}
use Rattle.book_model.proofs.ReplacedLemmas.{none_later, replaced_price, replaced_prices_stay}
use Rattle.book_model.proofs.TestLemmas.{replace_passes}
use Rattle.table_model.specs.Laws.{ReplaceFollows}
use Rattle.table_model.specs.BookIn.{replaced_read}
use Rattle.table_model.specs.Changed.{replaced_at}
use Rattle.table_model.specs.FromCalls.{ArePriced}
use Rattle.table_model.specs.Readable.{IsReadable, IsReplaced}
use Rattle.table_model.specs.Steps.{put_replaced_row}
use Rattle.table_model.specs.TableChanges.{amount_replaced, replace_each, replace_step}
use Rattle.table_model.specs.Tables.{ReplacedRow}
use Rattle.table_model.specs.TablesOf.{replaced_row}
use Rattle.table_model.specs.Words.{AreFramed, put_tariff_row, set_sums, reprice, under_numbers}
use Rattle.table_model.specs.Words.{RecordRow, RecordTable, Tables, RecordStatus, tariff_entries}
use Rattle.table_model.specs.Words.{tables_of, tables_at, status_of, record_entry, row_by}
use Rattle.table_model.specs.Words.{record_row, row_record}
use Rattle.table_model.proofs.CostLemmas.{day-price}
use Rattle.table_model.proofs.LineReading.{held_row}
use Rattle.table_model.proofs.Restated.{IsStatus, row_for, status_at}
use Rattle.table_model.proofs.RowsWhere.{AreMembers, all_rows, first_entry, first_held}
use Rattle.table_model.proofs.RowsWhere.{members_held, others_held}
use Rattle.table_model.proofs.RulingsReading.{one_read}
use Rattle.table_model.proofs.StatusSteps.{reprice-is, status-is}
use Rattle.table_model.proofs.UnderNumbers.{next_number, values-numbers}
use Rattle.table_model.proofs.WalkLemmas.{Restates, StepsOne, restated_all}
use Rattle.std.specs.FinMap as fin

-- the latest of the tariffs that pass a test passes it
latest_passes : (p : AcceptedTerms → Bool) (tariffs : List AcceptedTerms) (found : AcceptedTerms)
    → latest (filter p tariffs) ≡ Some found → p found ≡ true
latest_passes p [] found is = cc
latest_passes p (tariff ∷ tariffs) found is =
    elim (p tariff) as (λ b. p tariff ≡ b
    → latest (cond b (tariff ∷ filter p tariffs) (filter p tariffs)) ≡ Some found
    → p found ≡ true) [
      | true ↦ λ passes is.
          elim (latest (filter p tariffs)) as (λ rest. latest (filter p tariffs) ≡ rest
          → ◌≡◌ {A = Option AcceptedTerms} (Some (option_map_or (later_of tariff) rest tariff))
          (Some found) → p found ≡ true) [
            | None ↦ λ none is.
                let same : tariff ≡ found = cc in ap p (sym same) ∙ passes
            | Some other ↦ λ at is.
                let same : later_of tariff other ≡ found = cc in
                ap p (sym same)
                ∙ elim (int_lt tariff.terms.effective other.terms.effective) as (λ b.
                p (cond b other tariff) ≡ true)
                [ true ↦ latest_passes p tariffs other at | false ↦ passes ]
          ] refl is
      | false ↦ λ fails is. latest_passes p tariffs found is
    ] refl is

-- a day that has that tariff is not before its first day
under_late : (tariffs : List AcceptedTerms) (terms : Terms) (day : ℤ)
    → is_under tariffs terms day ≡ true → int_lt day terms.effective ≡ false
under_late tariffs terms day under =
    by_found (latest (filter (has_begun day) tariffs)) refl under
  where
    not_before : (b : Bool) → not b ≡ true → b ≡ false
    not_before true is = sym is
    not_before false is = refl

    by_found : (found : Option AcceptedTerms) → latest (filter (has_begun day) tariffs) ≡ found
        → option_map_or (λ (own : Terms). int_eq terms.effective own.effective)
        (option_map (λ (tariff : AcceptedTerms). tariff.terms) found) false ≡ true
        → int_lt day terms.effective ≡ false
    by_found None is none = absurd (true≢false (sym none))
    by_found (Some tariff) is same =
        ap (int_lt day) ((Decides-int_eq terms.effective tariff.terms.effective).0 same)
        ∙ not_before (int_lt day tariff.terms.effective)
        (latest_passes (has_begun day) tariffs tariff is)

-- ---- the rows of tariffs

-- of rising tariffs just one begins on a day on which one does, and it is found there
pub replaced_alone : (new : AcceptedTerms) (tariffs : List AcceptedTerms)
    → are_rising tariffs ≡ true → list_any (is_effective new.terms.effective) tariffs ≡ true
    → (one : AcceptedTerms) × (filter (is_effective new.terms.effective) tariffs ≡ one ∷ [])
    × (find int_cmp new.terms.effective (tariff_entries tariffs) ≡ Some one.text)
    × (new.terms.effective ≡ one.terms.effective)
replaced_alone new [] rise some = absurd (true≢false (sym some))
replaced_alone new (tariff ∷ tariffs) rise some =
    let day : ℤ = new.terms.effective in
    let own = list_all (λ later. int_lt tariff.terms.effective later.terms.effective) tariffs in
    elim (is_effective day tariff) as (λ b. is_effective day tariff ≡ b
    → (b || list_any (is_effective day) tariffs) ≡ true
    → (one : AcceptedTerms)
    × (cond b (tariff ∷ filter (is_effective day) tariffs) (filter (is_effective day) tariffs)
    ≡ one ∷ [])
    × (cond b (Some tariff.text) (find int_cmp day (tariff_entries tariffs)) ≡ Some one.text)
    × (day ≡ one.terms.effective)) [
      | true ↦ λ same some. (
        tariff,
        ap (λ rest. tariff ∷ rest)
            (none_later day tariff tariffs same (first_of own (are_rising tariffs) rise)),
        refl,
        (Decides-int_eq day tariff.terms.effective).0 same,
      )
      | false ↦ λ apart some.
          replaced_alone new tariffs (second_of own (are_rising tariffs) rise) some
    ] refl some

-- the new text is found on its day,
found_new : (new : AcceptedTerms) (tariffs : List AcceptedTerms)
    → list_any (is_effective new.terms.effective) tariffs ≡ true
    → find int_cmp new.terms.effective (tariff_entries (map (or_new new) tariffs)) ≡ Some new.text
found_new new [] some = absurd (true≢false (sym some))
found_new new (tariff ∷ tariffs) some =
    let day : ℤ = new.terms.effective in
    let rest : Option (Option (List ℕ)) =
    find int_cmp day (tariff_entries (map (or_new new) tariffs)) in
    elim (is_effective day tariff) as (λ b. is_effective day tariff ≡ b
    → (b || list_any (is_effective day) tariffs) ≡ true
    → cond (int_eq day (cond b new tariff).terms.effective) (Some (cond b new tariff).text) rest
    ≡ Some new.text) [
      | true ↦ λ same some.
          ap (λ b. cond b (Some new.text) rest) ((Decides-int_eq day day).1 refl)
      | false ↦ λ apart some.
          ap (λ b. cond b (Some tariff.text) rest) apart ∙ found_new new tariffs some
    ] refl some

-- and on another day what was found there
other_found : (new : AcceptedTerms) (q : ℤ) → int_eq q new.terms.effective ≡ false
    → (tariffs : List AcceptedTerms)
    → find int_cmp q (tariff_entries (map (or_new new) tariffs))
    ≡ find int_cmp q (tariff_entries tariffs)
other_found new q apart [] = refl
other_found new q apart (tariff ∷ tariffs) =
    let day : ℤ = new.terms.effective in
    let now : Option (Option (List ℕ)) = find int_cmp q (tariff_entries (map (or_new new) tariffs)) in
    let was : Option (Option (List ℕ)) = find int_cmp q (tariff_entries tariffs) in
    let rest : now ≡ was = other_found new q apart tariffs in
    elim (is_effective day tariff) as (λ b. is_effective day tariff ≡ b
    → cond (int_eq q (cond b new tariff).terms.effective) (Some (cond b new tariff).text) now
    ≡ cond (int_eq q tariff.terms.effective) (Some tariff.text) was) [
      | true ↦ λ same.
          let its : int_eq q tariff.terms.effective ≡ false =
          ap (int_eq q) (sym ((Decides-int_eq day tariff.terms.effective).0 same)) ∙ apart in
          ap (λ b. cond b (Some new.text) now) apart
          ∙ rest
          ∙ sym (ap (λ b. cond b (Some tariff.text) was) its)
      | false ↦ λ other.
          ap (λ found. cond (int_eq q tariff.terms.effective) (Some tariff.text) found) rest
    ] refl

-- so the rows are those before, with the new text on its day
tariff_rows : (new : AcceptedTerms) (tariffs : List AcceptedTerms)
    → list_any (is_effective new.terms.effective) tariffs ≡ true
    → from_entries {R = int_cmp} (tariff_entries (map (or_new new) tariffs))
    ≡ insert (from_entries (tariff_entries tariffs)) new.terms.effective new.text
tariff_rows new tariffs some =
    from_entries-insert int_cmp_total int_cmp-IsAntisymmetric (tariff_entries tariffs)
    (tariff_entries (map (or_new new) tariffs)) new.terms.effective new.text (λ q.
    elim (int_eq q new.terms.effective) as (λ b. int_eq q new.terms.effective ≡ b
    → find int_cmp q (tariff_entries (map (or_new new) tariffs))
    ≡ cond b (Some new.text) (find int_cmp q (tariff_entries tariffs))) [
      | true ↦ λ same.
          ap (λ q. find int_cmp q (tariff_entries (map (or_new new) tariffs)))
          ((Decides-int_eq q new.terms.effective).0 same)
          ∙ found_new new tariffs some
      | false ↦ λ apart. other_found new q apart tariffs
    ] refl)

-- the replaced tariffs are read back
all_replaced : (book : Book) (replaced : List Replaced) → All (IsReplaced book) replaced
    → filter_map replaced_read (map replaced_row replaced) ≡ replaced
all_replaced book [] all = refl
all_replaced book (one ∷ replaced) all =
    let its = one_read one.tariff (All-head (IsReplaced book) one replaced all).texted in
    let rest = all_replaced book replaced (All-tail (IsReplaced book) one replaced all) in
    λ i. cons_option (option_map
    (λ (tariff : AcceptedTerms). record { tariff = tariff; period = one.period }) (its i)) (rest i)

pub replaced_back : {book : Book} (replaced : List Replaced) → All (IsReplaced book) replaced
    → filter_map replaced_read
    (values (from_entries {R = nat_cmp} (under_numbers 1 (map replaced_row replaced)))) ≡ replaced
replaced_back {book} replaced all =
    ap (filter_map replaced_read) (values-numbers (map replaced_row replaced))
    ∙ all_replaced book replaced all

-- ---- what all records cost then

module _ (naming : Naming) (book : Book) (sound : IsSound naming book)
    (framed : AreFramed book.held) (text : List ℕ) (terms : Terms) where
  -- what a record costs by the text
  abbrev by_text : List ℕ → Option Priced
  by_text = price_in (with_replaced text terms book.rulings)

  abbrev table : RecordTable
  table = (tables_of naming book).records

  abbrev row_at : List ℕ → Priced → RecordRow
  row_at = row_by (identity_by book.rulings) (charged_of book) book.posted

  abbrev entry : List ℕ → Option (List ℕ × RecordRow)
  entry = record_entry naming book.rulings (charged_of book) book.posted

  -- one record, by its row
  row_cost : (k : List ℕ) (cost : Priced) → has book.held k ≡ true
      → price_in book.rulings k ≡ Some cost
      → (own : Priced) × (by_text k ≡ Some own)
      × (own.amount ≡ amount_replaced book.rulings.tariffs terms (row_at k cost))
  row_cost k cost there costs =
      let day = day-price book.rulings k cost costs in
      let now = replaced_price book.rulings text terms k in
      elim (is_under book.rulings.tariffs terms (day_of k))
      as (λ b. is_under book.rulings.tariffs terms (day_of k) ≡ b
      → by_text k ≡ (if b then Some (price_by terms k) else price_in book.rulings k)
      → (own : Priced) × (by_text k ≡ Some own)
      × (own.amount ≡ amount_replaced book.rulings.tariffs terms (row_at k cost))) [
        | true ↦ λ under now. (
          price_by terms k,
          now,
          rw (day, under) (ap (λ bytes. (price_by terms bytes).amount) ((framed k there).is)),
        )
        | false ↦ λ other now. (cost, now ∙ costs, rw (day, other))
      ] refl now

  -- the same holds for the records of a list,
  of_list : (ks : List (List ℕ)) → AreMembers book.held ks
      → sum_by (λ (e : List ℕ × RecordRow). amount_replaced book.rulings.tariffs terms e.1)
      (filter_map entry ks)
      ≡ sum_by (λ (p : Priced). p.amount) (filter_map by_text ks)
  of_list [] held = refl
  of_list (k ∷ ks) held =
      let its : List ℕ × RecordRow → ℕ = λ e. amount_replaced book.rulings.tariffs terms e.1 in
      let rest = of_list ks (others_held book.held k ks held) in
      let first = first_entry naming book sound (status_of book) sound.priced k ks held in
      let own = row_cost k first.0 (first_held book.held k ks held) first.1 in
      let row : List ℕ × RecordRow = (name_of naming k, row_at k first.0) in
      let amount = own.2 in
      let one = sum_by-cons its row (filter_map entry ks) in
      let other = sum_by-cons (λ (p : Priced). p.amount) own.0 (filter_map by_text ks) in
      let both : sum_by its (row ∷ filter_map entry ks)
      ≡ sum_by (λ (p : Priced). p.amount) (own.0 ∷ filter_map by_text ks) = omega arith in
      ap (sum_by its) first.2 ∙ both
      ∙ ap (λ price. sum_by (λ (p : Priced). p.amount) (cons_option price (filter_map by_text ks)))
      (sym own.1)

  -- and for those of the table
  pub sum_replaced : sum_by (amount_replaced book.rulings.tariffs terms) (fin.values table)
      ≡ total_of (with_replaced text terms book.rulings) book.held
  sum_replaced =
      let all : List (List ℕ) = members book.held in
      let its : RecordRow → ℕ = amount_replaced book.rulings.tariffs terms in
      fold-map (λ n (row : RecordRow). n + its row) (λ (e : List ℕ × RecordRow). e.1) 0
      (entries table)
      ∙ sym (sum_by-IsPermutation (λ (e : List ℕ × RecordRow). its e.1)
      (entries table) (filter_map entry all)
      (all_rows naming book sound (status_of book) sound.priced))
      ∙ of_list all (members_held book.held)

-- where the rows can cost what the text says, each record can
pub replaced_priced : (naming : Naming) (book : Book) (text : List ℕ) (terms : Terms)
    → IsReadable naming book
    → ((name : List ℕ) (row : RecordRow) → get (tables_of naming book).records name ≡ Some row
    → is_under book.rulings.tariffs terms row.priced.day ≡ true
    → IsPriced (price_by terms (row_record row)))
    → ArePriced (with_replaced text terms book.rulings) book.held
replaced_priced naming book text terms whole rows bytes priced there price =
    let tariffs : List AcceptedTerms = book.rulings.tariffs in
    elim (is_under tariffs terms (day_of bytes))
    as (λ b. is_under tariffs terms (day_of bytes) ≡ b
    → price_in (with_replaced text terms book.rulings) bytes
    ≡ (if b then Some (price_by terms bytes) else price_in book.rulings bytes)
    → IsPriced priced) [
      | true ↦ λ under now.
          let row = held_row naming book whole.sound bytes there in
          subst IsPriced (same_Some (price_by terms bytes) priced (sym now ∙ price))
          (subst (λ its. IsPriced (price_by terms its)) (sym (whole.lines.framed bytes there).is)
          (rows (name_of naming bytes)
          (record_row book.rulings (charged_of book) book.posted bytes row.0) row.2
          (ap (is_under tariffs terms) (day-price book.rulings bytes row.0 row.1) ∙ under)))
      | false ↦ λ other now. whole.priced bytes priced there (sym now ∙ price)
    ] refl (replaced_price book.rulings text terms bytes)

-- ---- the walk

-- a day that is not before one after the last close is after that close
after_too : (last : Option ℤ) (bytes : List ℕ) (first : ℤ) → is_after last first ≡ true
    → int_lt (day_of bytes) first ≡ false → is_dated_after last bytes ≡ true
after_too None bytes first forward late = refl
after_too (Some close) bytes first forward late = grind (arith, ints, forward, late)

module _ (naming : Naming) (book : Book) (sound : IsSound naming book)
    (framed : AreFramed book.held) (rise : are_rising book.rulings.tariffs ≡ true) (text : List ℕ)
    (terms : Terms) (done : replace_answer book text terms ≡ Ok Done) where
  -- the rulings with the text, and what records cost before it and by it
  abbrev ruled : Rulings
  ruled = with_replaced text terms book.rulings

  abbrev tariffs : List AcceptedTerms
  tariffs = book.rulings.tariffs

  abbrev old : List ℕ → Option Priced
  old = price_in book.rulings

  abbrev new : List ℕ → Option Priced
  new = price_in ruled

  abbrev charged : Records
  charged = charged_of book

  abbrev identity : List ℕ → List ℕ
  identity = identity_by book.rulings

  abbrev stand : (List ℕ → Option Priced) → RecordStatus
  stand price = record { price = price; identity = identity; charged = charged }

  abbrev tables : (List ℕ → Option Priced) → Tables
  tables price = tables_at naming book (stand price)

  held : AreAmong charged book.held
  held q on = in_those (is_undisputed book.rulings book.held) book.held q on

  was : IsStatus book (stand old)
  was = status-is naming book sound charged held

  becomes : IsStatus book (stand new)
  becomes = record {
    charged = held;
    priced = (steps_stay_sound.replace naming book text terms sound).priced;
    dated = λ q cost costs. day-price ruled q cost costs;
  }

  -- a record whose day has the tariff is dated after the last close
  under_after : (q : List ℕ) → is_under tariffs terms (day_of q) ≡ true
      → is_dated_after (last_close book.rulings) q ≡ true
  under_after q under =
      after_too (last_close book.rulings) q terms.effective
      (replace_passes book text terms done).later (under_late tariffs terms (day_of q) under)

  -- so what is settled costs what it cost
  settled : (q : List ℕ) → has book.held q ≡ true
      → is_dated_after (last_close book.rulings) q ≡ false → old q ≡ new q
  settled q there past = sym (replaced_prices_stay book text terms q done past)

  -- each record gets its price by the text
  step_is : Restates naming book sound (stand old) (stand new) was becomes settled
      (replace_step (open_number book) tariffs terms)
  step_is one there cost costs its its_now made found =
      let name : List ℕ = name_of naming one in
      let period : ℕ = open_number book in
      let row : RecordRow = row_for book one (status_at (stand old) one) cost in
      let day = day-price book.rulings one cost its in
      let now = replaced_price book.rulings text terms one in
      elim (is_under tariffs terms (day_of one))
      as (λ b. is_under tariffs terms (day_of one) ≡ b
      → new one ≡ (if b then Some (price_by terms one) else old one)
      → replace_step period tariffs terms name made
      ≡ (if b then reprice period name row (price_by terms one) made else made)
      → StepsOne naming book sound (stand old) (stand new) was becomes settled
      (replace_step period tariffs terms) made one cost costs) [
        | true ↦ λ under now stepped.
            let own : price_by terms one ≡ costs =
            same_Some (price_by terms one) costs (sym now ∙ its_now) in
            let after = under_after one under in
            inl (stepped ∙ ap (λ costs. reprice period name row costs made) own
            ∙ reprice-is period (last_close book.rulings) name row made found costs
            (unposted one after)
            (ap (is_after (last_close book.rulings)) day ∙ after)
            (ap (is_after (last_close book.rulings)) (day-price ruled one costs its_now)
            ∙ after))
        | false ↦ λ other now stepped. inr (
          (λ i. record (status_at (stand old) one) { price = sym now i }),
          stepped,
        )
      ] refl now (rw found (λ i. if is_under tariffs terms (day i)
      then reprice period name row (price_by terms (sym ((framed one there).is) i)) made else made))
    where
      unposted : (one : List ℕ) → is_dated_after (last_close book.rulings) one ≡ true
          → has book.posted one ≡ false
      unposted one after =
          false_from_ne_true (has book.posted one)
          (λ on. true≢false (sym after ∙ sound.dated one on))

  -- so after the walk all that is held has its price by the text
  walked : replace_each (open_number book) tariffs terms (tables old) ≡ tables new
  walked = restated_all naming book sound (stand old) (stand new) was becomes settled
      (replace_step (open_number book) tariffs terms) step_is

  -- ---- the tables with the text

  replaced-tables : tables_of naming (give (TariffReplaced text terms) book)
      ≡ replaced_at (length book.rulings.replaced + 1) (open_number book) tariffs text terms
      (sum_by (amount_replaced tariffs terms) (values (tables_of naming book).records))
      (tables_of naming book)
  replaced-tables =
      let own : AcceptedTerms = record { text = Some text; terms = terms } in
      let day : ℤ = terms.effective in
      let period : ℕ = open_number book in
      let number : ℕ = length book.rulings.replaced + 1 in
      let found = (replace_passes book text terms done).found in
      let one = replaced_alone own tariffs rise found in
      let total : ℕ = total_of ruled book.held in
      let earlier : List ReplacedRow = map replaced_row book.rulings.replaced in
      let many : length earlier ≡ length book.rulings.replaced =
      length-map book.rulings.replaced replaced_row in
      let kept : Option (List ℕ) → ReplacedRow = λ was.
      record { day = day; text = was; period = period } in
      let row : Option (List ℕ) → Tables → Tables = λ was made.
      set_sums (tables old).book.held total
      (put_tariff_row day (Some text) (put_replaced_row number (kept was) made)) in
      let last : replaced_row (record { tariff = one.0; period = period }) ≡ kept one.0.text =
      λ i. record { day = sym one.3 i; text = one.0.text; period = period } in
      let rows = ap (λ some. from_entries {R = nat_cmp} (under_numbers 1
      (map replaced_row (book.rulings.replaced ++ map (replaced_in period) some)))) one.1
      ∙ ap (λ all. from_entries {R = nat_cmp} (under_numbers 1 all))
      (map-append replaced_row book.rulings.replaced
      (record { tariff = one.0; period = period } ∷ [])
      ∙ ap (λ r. earlier ++ r ∷ []) last)
      ∙ next_number earlier (kept one.0.text) number (omega arith) in
      let texts = tariff_rows own tariffs found in
      let made : tables_of naming (give (TariffReplaced text terms) book)
      ≡ row one.0.text (tables new) =
      λ i. record (row one.0.text (tables new)) { tariffs = texts i; replaced = rows i } in
      let at : get (tables old).tariffs day ≡ Some one.0.text =
      get-from_entries int_cmp_total (tariff_entries tariffs) day ∙ one.2 in
      made
      ∙ ap (row one.0.text) (sym walked)
      ∙ ap (λ found. set_sums (tables old).book.held total (put_tariff_row day (Some text)
      (option_map_or (λ was. put_replaced_row number (kept was)
      (replace_each period tariffs terms (tables old))) found
      (replace_each period tariffs terms (tables old))))) (sym at)
      ∙ ap (λ total. replaced_at number period tariffs text terms total (tables old))
      (sym (sum_replaced naming book sound framed text terms))

-- the law
pub replace_follows : ReplaceFollows
replace_follows naming book text terms sound framed rise done =
    replaced-tables naming book sound framed rise text terms done
