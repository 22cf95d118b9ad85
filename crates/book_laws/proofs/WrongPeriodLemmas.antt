-- The law of the net count is false where a period is made wrongly.
use Rattle.std.proofs.Common.{◌≡◌, ℕ, ◌+◌, List, [], ◌∷◌, ◌++◌, refl, sym, ap, ◌∙◌, true, false}
use Rattle.std.proofs.Common.{Bool, not, ◌&&◌, ◌||◌, Option, None, Some, arith, replicate, ℤ, pos}
use Rattle.std.proofs.Common.{◌-ℤ◌}
use Rattle.std.proofs.Math.Bool.{and-false}
use Rattle.book_model.proofs.Std.{list_any, nat_list_cmp_total, ints, exact_bytes}
use Rattle.book_model.specs.Words.{day_of, Period, period_by, Book, conflict, is_undisputed}
use Rattle.book_model.specs.Words.{is_dated_through, is_dated_after, charged_now, charged_through}
use Rattle.book_model.specs.Words.{Event, RecordKept, PeriodClosed, book_after, Records, by_bytes}
use Rattle.book_model.specs.Words.{Rulings, no_rulings, last_close, set_of, has, without}
use Rattle.book_model.proofs.Lemmas.{has-set_of, is, has_those}
use Rattle.book_model.proofs.SetLemmas.{any-members}
use Rattle.book_laws.specs.NetCounts.{one_if, net_count}
use Rattle.book_laws.specs.WrongPeriods.{closed_periods_by, ChargedOnceBy, as_defined, no_minus}
use Rattle.book_laws.specs.WrongPeriods.{counts_late, adds_current, WrongPeriodsFail}
use Rattle.book_laws.proofs.NetLemmas.{has_without, in_counted, in_added, charged_once}
use Rattle.smf_text.specs.PackedDate as packed
use Rattle.smf_type30.specs.Usage as usage

-- the periods of the book are made as they are defined
past_is : (history : List Event) → closed_periods_by as_defined history ≡ (book_after history).past
past_is [] = refl
past_is (PeriodClosed said day ∷ older) =
    let book : Book = book_after older in
    ap (λ past. past ++ as_defined (last_close book.rulings) book.posted
    (charged_through book.rulings day book.held) ∷ []) (past_is older)
past_is (event ∷ older) = past_is older

right : ChargedOnceBy as_defined
right history bytes =
    let book : Book = book_after history in
    ap (λ past.
    net_count
    (past ++ as_defined (last_close book.rulings) book.posted (charged_now book.rulings book.held)
    ∷ []) bytes) (past_is history)
    ∙ charged_once history bytes

-- two records of one identity, and a day through which the first is charged
abbrev one : List ℕ
one = replicate 200 0

abbrev other : List ℕ
other = replicate 201 0

abbrev last : ℤ
last = day_of one

-- rulings that are closes alone
abbrev ruled : List ℤ → Rulings
ruled closes = record no_rulings { closes = closes }

they_conflict : (closes : List ℤ) → conflict (ruled closes) one other ≡ true
unfolding usage.identity_of usage.job_of usage.subtype_of
they_conflict closes = refl

dated : is_dated_through last one ≡ true
unfolding usage.day_of packed.packed_day_of
dated = refl

-- which are charged now, of the records of a list
charged_is : (closes : List ℤ) (ks : List (List ℕ)) (q : List ℕ)
    → has (charged_now (ruled closes) (set_of by_bytes ks)) q
    ≡ ((not (list_any (conflict (ruled closes) q) ks) || false) && list_any (is q) ks)
charged_is closes ks q =
    has_those (is_undisputed (ruled closes) (set_of by_bytes ks)) (set_of by_bytes ks) q
    ∙ (λ i. (not (any-members nat_list_cmp_total exact_bytes (conflict (ruled closes) q) ks i)
    || false) && has-set_of nat_list_cmp_total ks q i)

-- which were charged by a close
posted_is : (closes : List ℤ) (day : ℤ) (ks : List (List ℕ)) (q : List ℕ)
    → has (charged_through (ruled closes) day (set_of by_bytes ks)) q
    ≡ (((not (list_any (conflict (ruled closes) q) ks) || false) && is_dated_through day q)
    && list_any (is q) ks)
posted_is closes day ks q =
    has_those (λ bytes. is_undisputed (ruled closes) (set_of by_bytes ks) bytes
    && is_dated_through day bytes) (set_of by_bytes ks) q
    ∙ (λ i. ((not (any-members nat_list_cmp_total exact_bytes (conflict (ruled closes) q) ks i)
    || false) && is_dated_through day q) && has-set_of nat_list_cmp_total ks q i)

-- nothing is in the empty set
nobody : (q : List ℕ) → has (set_of by_bytes []) q ≡ false
nobody q = has-set_of nat_list_cmp_total [] q

-- the first record alone is charged, and posted by the close
now_charged : (closes : List ℤ)
    → has (charged_now (ruled closes) (set_of by_bytes (one ∷ []))) one ≡ true
now_charged closes = charged_is closes (one ∷ []) one

now_posted : (closes : List ℤ)
    → has (charged_through (ruled closes) last (set_of by_bytes (one ∷ []))) one ≡ true
now_posted closes = posted_is closes last (one ∷ []) one ∙ ap (λ b. b && true) dated

-- with the other it is disputed
now_disputed : (closes : List ℤ)
    → has (charged_now (ruled closes) (set_of by_bytes (other ∷ one ∷ []))) one ≡ false
now_disputed closes =
    charged_is closes (other ∷ one ∷ []) one
    ∙ ap (λ b. (not (b || list_any (conflict (ruled closes) one) (one ∷ [])) || false)
    && list_any (is one) (other ∷ one ∷ [])) (they_conflict closes)

-- which are counted, added and reversed
one_counted : (close : Option ℤ) (before charged : Records) (now : Bool) → has charged one ≡ now
    → has (period_by close before charged).counted one ≡ (is_dated_after close one && now)
one_counted close before charged now is_now =
    in_counted close before charged one ∙ ap (λ b. is_dated_after close one && b) is_now

one_fresh : (before charged : Records) (stood now : Bool) → has before one ≡ stood
    → has charged one ≡ now
    → has (without charged before) one ≡ (not stood && now)
one_fresh before charged stood now stood_is is_now =
    has_without charged before one ∙ (λ i. not (stood_is i) && is_now i)

one_added : (close : Option ℤ) (before charged : Records) (stood now : Bool)
    → has before one ≡ stood → has charged one ≡ now
    → has (period_by close before charged).added one
    ≡ (not (is_dated_after close one) && (not stood && now))
one_added close before charged stood now stood_is is_now =
    in_added close before charged one
    ∙ (λ i. not (is_dated_after close one) && (not (stood_is i) && is_now i))

-- a net count of two periods, by their sets
of_two : (p q : Period) (c d a b t u charged now : Bool)
    → has p.counted one ≡ c → has q.counted one ≡ d → has p.added one ≡ a → has q.added one ≡ b
    → has p.taken one ≡ t → has q.taken one ≡ u → charged ≡ now
    → net_count (p ∷ q ∷ []) one ≡ pos (one_if charged)
    → pos ((0 + one_if c + one_if d) + (0 + one_if a + one_if b)) -ℤ pos (0 + one_if t + one_if u)
    ≡ pos (one_if now)
of_two p q c d a b t u charged now pc qd pa qb pt qu is law =
    sym (λ i. pos ((0 + one_if (pc i) + one_if (qd i)) + (0 + one_if (pa i) + one_if (qb i))) -ℤ pos
    (0 + one_if (pt i) + one_if (qu i)))
    ∙ law ∙ ap (λ b. pos (one_if b)) is

-- and of one period
of_one : (p : Period) (c a t charged now : Bool)
    → has p.counted one ≡ c → has p.added one ≡ a → has p.taken one ≡ t → charged ≡ now
    → net_count (p ∷ []) one ≡ pos (one_if charged)
    → pos ((0 + one_if c) + (0 + one_if a)) -ℤ pos (0 + one_if t) ≡ pos (one_if now)
of_one p c a t charged now pc pa pt is law =
    sym (λ i. pos ((0 + one_if (pc i)) + (0 + one_if (pa i))) -ℤ pos (0 + one_if (pt i)))
    ∙ law ∙ ap (λ b. pos (one_if b)) is

-- if records dated after the close are added too, a record that came before any close is charged
-- twice
added_fails : ChargedOnceBy adds_current → ⊥
added_fails law =
    let book : Book = book_after (RecordKept one ∷ []) in
    let charged : Records = charged_now book.rulings book.held in
    let before : Records = book.posted in
    let now = now_charged [] in
    let twice =
    of_one (adds_current None before charged) true true false (has charged one) true
    (one_counted None before charged true now)
    (one_fresh before charged false true (nobody one) now)
    (one_fresh charged before true false now (nobody one))
    now (law (RecordKept one ∷ []) one) in
    absurd (omega (arith, ints))

-- if late records are counted too, a record is counted again in the period after a close
counted_fails : ChargedOnceBy counts_late → ⊥
counted_fails law =
    let first : Book = book_after (RecordKept one ∷ []) in
    let second : Book = book_after (PeriodClosed None last ∷ RecordKept one ∷ []) in
    let charged : Records = charged_now second.rulings second.held in
    let posted : Records = second.posted in
    let was = now_posted [] in
    let now = now_charged second.rulings.closes in
    let twice =
    of_two (counts_late None first.posted posted) (counts_late (Some last) posted charged)
    true true false false false false (has charged one) true
    was now
    (one_added None first.posted posted false true (nobody one) was)
    (one_added (Some last) posted charged true true was now
    ∙ and-false (not (is_dated_after (Some last) one)))
    (one_fresh posted first.posted true false was (nobody one))
    (one_fresh charged posted true true now was)
    now (law (PeriodClosed None last ∷ RecordKept one ∷ []) one) in
    absurd (omega (arith, ints))

-- if nothing is reversed, a record stays charged that a close charged and another record
-- disputes
minus_fails : ChargedOnceBy no_minus → ⊥
minus_fails law =
    let first : Book = book_after (RecordKept one ∷ []) in
    let third : Book = book_after (RecordKept other ∷ PeriodClosed None last ∷ RecordKept one ∷ []) in
    let charged : Records = charged_now third.rulings third.held in
    let posted : Records = third.posted in
    let was = now_posted [] in
    let now = now_disputed third.rulings.closes in
    let current : Bool = is_dated_after (Some last) one in
    let stays =
    of_two (no_minus None first.posted posted) (no_minus (Some last) posted charged)
    true false false false false false (has charged one) false
    (one_counted None first.posted posted true was)
    (one_counted (Some last) posted charged false now ∙ and-false current)
    (one_added None first.posted posted false true (nobody one) was)
    (one_added (Some last) posted charged true false was now ∙ and-false (not current))
    (nobody one) (nobody one)
    now (law (RecordKept other ∷ PeriodClosed None last ∷ RecordKept one ∷ []) one) in
    absurd (omega (arith, ints))

-- the law
pub wrong_periods_fail : WrongPeriodsFail
wrong_periods_fail =
    record { right = right; minus = minus_fails; counted = counted_fails; added = added_fails }
