-- The bills of closed periods stay.
use Rattle.std.proofs.Common.{◌≡◌, ℕ, zero, suc, ◌<◌, List, [], ◌∷◌, length, refl, sym, ap, ◌∙◌}
use Rattle.std.proofs.Common.{true, false, Bool, ◌||◌, Option, Some, None, is_some}
use Rattle.std.proofs.Common.{arith, All, ℤ, pos, if◌then◌else◌, filter_map, ok_or}
use Rattle.std.proofs.Common.{flat_map, option_map, int_cmp, length-append}
use Rattle.std.proofs.lemmas.List.Sorted.{All-permutation}
use Rattle.book_model.proofs.Std.{IsStrictlySortedBy, cons_option, list_any, All-append}
use Rattle.book_model.proofs.Std.{All-cons, All-filter, All-nil, IsPermutation-sym}
use Rattle.book_model.proofs.Std.{slice_get-get_or}
use Rattle.book_model.specs.declared.bill.HeldBack.{HeldBack}
use Rattle.book_model.specs.Words.{ended_step_of, job_id_of, job_of, program_of, Priced}
use Rattle.book_model.specs.Words.{Book, Event, IsSound, Naming, Period}
use Rattle.book_model.specs.Words.{Records, Rulings, after_all, bill_of, bill_outcome}
use Rattle.book_model.specs.Words.{billed_line, billed_lines, billed_shifts, billed_tariff}
use Rattle.book_model.specs.Words.{book_after}
use Rattle.book_model.specs.Words.{details_asked, disputes_in, has, held_back_in}
use Rattle.book_model.specs.Words.{held_back_of, is_dated_after, jobs_of, last_close}
use Rattle.book_model.specs.Words.{letterhead_among, lines_for, lines_of, members, name_of}
use Rattle.book_model.specs.Words.{no_event, period_of_line}
use Rattle.book_model.specs.Words.{price_in, record_named, same_bytes, steps_of}
use Rattle.book_model.specs.Words.{work_rows, CreditGiven, PeriodClosed}
use Rattle.book_model.specs.Words.{RulingGiven, credits_asked, credits_in, open_by}
use Rattle.book_model.proofs.CreditLemmas.{credit_late}
use Rattle.book_model.proofs.LinePeriodLemmas.{line_told, told}
use Rattle.book_model.proofs.Lemmas.{line_by, line_of, map-agree, is, is_first}
use Rattle.book_model.proofs.SamePriceLemmas.{same_lines}
use Rattle.report_texts.specs.Centres.{lines_of_centre}
use Rattle.table_model.proofs.TrailLemmas.{named_itself}
use Rattle.book_laws.specs.BillLaws.{BooksKeepBills, ClosedBillsStay}
use Rattle.book_model.specs.MadeByCalls.{AreMadeOf}
use Rattle.book_laws.proofs.Words.{or-true, NoSuchPeriod, Line, through_at, held_in, AreReadOnce}
use Rattle.book_laws.proofs.Words.{both_lines, IsClosed}
use Rattle.book_laws.proofs.BillLemmas.{of_period}
use Rattle.book_laws.proofs.LaterLemmas.{answered_before, closes_rise, made_later, of_history}
use Rattle.book_laws.proofs.LaterLemmas.{sound_before, sound_later}
use Rattle.book_laws.proofs.ReadLemmas.{lines_once}
use Rattle.book_laws.proofs.StayLemmas.{keeps, keeps_period}
use Rattle.book_laws.proofs.TariffStays.{before_same, keeps_tariffs, tariffs_stay}
use Rattle.book_laws.proofs.TurnStays.{charge_stays}
use Rattle.std.specs.FinMap as map

-- the period that a line speaks of, by the record of its name
module _ (naming : Naming) (book : Book) (sound : IsSound naming book) (number : ℕ) (line : Line)
    (bytes : List ℕ) (there : has book.held bytes ≡ true) (named : line.name ≡ name_of naming bytes)
  where
    pub period_told : period_of_line naming book number line ≡ told naming book number line bytes
    period_told =
        line_told naming book number line bytes
        (ap (record_named naming book.held) named ∙ named_itself naming book sound bytes there)
        (sound.priced bytes there)

-- what holds of a line of each record, with any price, holds of the lines
module _ (naming : Naming) (rulings : Rulings) (P : Line → Type 0) (plus : Bool) where
  abbrev pub line_with : List ℕ → Priced → Line
  line_with bytes priced = record {
    plus = plus;
    name = name_of naming bytes;
    job = job_of bytes;
    program = program_of bytes;
    job_id = job_id_of bytes;
    step = ended_step_of bytes;
    priced = priced;
  }

  each_given : (ks : List (List ℕ))
      → ((k : List ℕ) → list_any (is k) ks ≡ true → (priced : Priced) → P (line_with k priced))
      → All P (filter_map (line_of naming rulings plus) ks)
  each_given [] holds = All-nil P
  each_given (k ∷ ks) holds =
      let rest =
      each_given ks
      (λ other among. holds other (ap (λ b. is other k || b) among ∙ or-true (is other k))) in
      let others : List Line = filter_map (line_of naming rulings plus) ks in
      elim (price_in rulings k)
      as (λ price. All P (cons_option (line_by naming rulings plus k price) others)) [
        | None ↦ rest
        | Some priced ↦ All-cons P (line_with k priced) others (holds k (is_first k ks) priced) rest
      ]

  each_line : (records : Records)
      → ((bytes : List ℕ) → has records bytes ≡ true → (priced : Priced) → P (line_with bytes priced))
      → All P (lines_for naming rulings plus records)
  each_line records holds =
      each_given (members records)
      (λ k among. holds k (map.contains_key-keys records k ∙ among))

-- what holds of a line of each record that a period adds or reverses holds of its lines
pub each_of_period : (naming : Naming) (rulings : Rulings) (period : Period) (P : Line → Type 0)
    → AreReadOnce naming rulings period
    → ((bytes : List ℕ) → has period.added bytes ≡ true → (priced : Priced)
    → P (line_with naming rulings P true bytes priced))
    → ((bytes : List ℕ) → has period.taken bytes ≡ true → (priced : Priced)
    → P (line_with naming rulings P false bytes priced))
    → All P (lines_of naming rulings period)
each_of_period naming rulings period P read added taken =
    All-permutation P (both_lines naming rulings period) (lines_of naming rulings period)
    (IsPermutation-sym (lines_of naming rulings period) (both_lines naming rulings period) read.same)
    (All-append P (lines_for naming rulings true period.added)
    (lines_for naming rulings false period.taken)
    (each_line naming rulings P true period.added added)
    (each_line naming rulings P false period.taken taken))

-- lines of which each is billed alike are billed alike
billed_alike : (naming : Naming) (one other : Book) (number : ℕ) (centre : Option (List ℕ))
    (lines : List Line)
    → All (λ line. billed_line naming one number line ≡ billed_line naming other number line) lines
    → billed_lines naming one number centre lines ≡ billed_lines naming other number centre lines
billed_alike naming one other number None lines alike = refl
billed_alike naming one other number (Some centre) lines alike =
    map-agree (billed_line naming one number) (billed_line naming other number)
    (lines_of_centre centre lines)
    (All-filter (λ (line : Line). same_bytes line.priced.centre centre)
    (λ line. billed_line naming one number line ≡ billed_line naming other number line) lines alike)

-- a closed period holds nothing back
none_held_back : (naming : Naming) (book : Book) (k : ℕ) (centre : Option (List ℕ))
    → k < length book.rulings.closes → held_back_of naming book (suc k) centre ≡ None
none_held_back naming book k centre within =
    let day : ℤ = pos 0 in
    let closed = through_at (suc k) book.rulings ∙ slice_get-get_or book.rulings.closes k day within in
    let held : HeldBack = held_back_in centre (disputes_in naming book.rulings book.held) in
    ap (λ (through : Option ℤ). if is_some through then None else Some held) closed

-- no event adds a credit to a closed period, or takes one from it
keeps_credits : (later : List Event) (old : Book) (number : ℕ) → number < open_by old.rulings
    → (number < open_by (after_all later old).rulings)
    × (credits_in number (after_all later old).rulings ≡ credits_in number old.rulings)
keeps_credits [] old number closed = (closed, refl)
keeps_credits (PeriodClosed said day ∷ later) old number closed =
    let before = keeps_credits later old number closed in
    let more = length-append (after_all later old).rulings.closes (day ∷ []) in
    let was = before.0 in
    (omega (arith, more, was), before.1)
keeps_credits (RulingGiven said (CreditGiven centre amount reason) ∷ later) old number closed =
    let before = keeps_credits later old number closed in
    let book : Book = after_all later old in (
      before.0,
      credit_late book.rulings.credits (record {
        centre = centre;
        amount = amount;
        reason = reason;
        period = open_by book.rulings;
      }) number before.0 ∙ before.1,
    )
keeps_credits (event ∷ later) old number closed = keeps_credits later old number closed

-- the bill of a closed period stays, where a sound book has its closes in order
bill_stays : (naming : Naming) (later : List Event) (old : Book) (number : ℕ)
    (centre : Option (List ℕ)) → IsSound naming old
    → IsStrictlySortedBy int_cmp old.rulings.closes → AreMadeOf naming old later
    → IsClosed number old
    → bill_outcome naming number centre (after_all later old)
    ≡ bill_outcome naming number centre old
bill_stays naming later old zero centre was_sound rising made closed =
    let some = closed.is_numbered in
    absurd (omega arith)
bill_stays naming later old (suc k) centre was_sound rising made closed =
    let new : Book = after_all later old in
    let kept = keeps_period naming later old (suc k) was_sound made closed in
    let period : Period = kept.period in
    let is_sound = sound_later naming later old was_sound made in
    let past = closed.is_past in
    let within : k < length old.rulings.closes = omega arith in
    let as_many = was_sound.closed in
    let was_held = held_in naming old was_sound (suc k) period kept.was in
    let is_held = held_in naming new is_sound (suc k) period kept.is in
    let read = of_period (λ period. AreReadOnce naming old.rulings period) naming old was_sound
    (lines_once naming old was_sound) (suc k) period kept.was in
    let alike = λ (bytes : List ℕ) (early : is_dated_after (last_close old.rulings) bytes ≡ false).
    (keeps naming later old bytes made early).price in
    let lines = same_lines new.rulings old.rulings (last_close old.rulings) alike naming period
    kept.dated in
    let P : Line → Type 0 = λ line.
    billed_line naming new (suc k) line ≡ billed_line naming old (suc k) line in
    let one : (plus : Bool) (bytes : List ℕ) → has old.held bytes ≡ true
    → has new.held bytes ≡ true → is_dated_after (last_close old.rulings) bytes ≡ false
    → (priced : Priced) → P (line_with naming old.rulings P plus bytes priced) =
    λ plus bytes was now early priced.
    let line : Line = line_with naming old.rulings P plus bytes priced in
    let place = (keeps naming later old bytes made early).place in
    let charges = charge_stays (suc k) bytes later old (omega arith) in
    let same : period_of_line naming new (suc k) line ≡ period_of_line naming old (suc k) line =
    period_told naming new is_sound (suc k) line bytes now refl
    ∙ (λ i. if plus then Some (place i) else charges i)
    ∙ sym (period_told naming old was_sound (suc k) line bytes was refl) in
    ap (λ (period : Option ℕ). record { line = line; period = period }) same in
    let each : All P (lines_of naming old.rulings period) =
    each_of_period naming old.rulings period P read
    (λ bytes there priced. one true bytes (was_held.added bytes there) (is_held.added bytes there)
    (kept.dated.added bytes there) priced)
    (λ bytes there priced. one false bytes (was_held.taken bytes there) (is_held.taken bytes there)
    (kept.dated.taken bytes there) priced) in
    let billed = ap (billed_lines naming new (suc k) centre) lines
    ∙ billed_alike naming new old (suc k) centre (lines_of naming old.rulings period) each in
    let credits = (keeps_credits later old (suc k) past).1 in
    let tariffs = tariffs_stay naming later old k rising made within in
    let before = before_same naming later old k rising made within in
    let still = (keeps_tariffs naming later old k rising made within).within in
    let none = none_held_back naming new k centre still
    ∙ sym (none_held_back naming old k centre within) in
    let same : bill_of naming new (suc k) centre period ≡ bill_of naming old (suc k) centre period =
    λ i. record {
      steps = work_rows (steps_of (details_asked centre (kept.details i)));
      jobs = work_rows (jobs_of (details_asked centre (kept.details i)));
      lines = billed i;
      credits = credits_asked centre (credits i);
      held_back = none i;
      before = before i;
      tariffs = filter_map billed_tariff (tariffs i);
      shifts = flat_map billed_shifts (tariffs i);
      letterhead = letterhead_among (tariffs i);
    } in
    let by = λ (book : Book) (found : Option Period).
    no_event (ok_or (option_map (bill_of naming book (suc k) centre) found) NoSuchPeriod) in
    ap (by new) kept.is
    ∙ ap (λ bill. no_event (ok_or (Some bill) NoSuchPeriod)) same
    ∙ sym (ap (by old) kept.was)

-- the law, of books that can be read back
pub books_keep_bills : BooksKeepBills
books_keep_bills naming book later number centre whole made closed =
    bill_stays naming later book number centre whole.sound whole.in_order made closed

-- and of histories
pub closed_bills_stay : ClosedBillsStay
closed_bills_stay naming later earlier number centre answered closed =
    let old : Book = book_after earlier in
    of_history (λ new. bill_outcome naming number centre new
    ≡ bill_outcome naming number centre old) later earlier
    (bill_stays naming later old number centre (sound_before naming later earlier answered)
    (closes_rise naming earlier (answered_before naming later earlier answered))
    (made_later naming later earlier answered) closed)
