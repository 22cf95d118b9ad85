-- Lives: charges and reversals take turns, and net to whether the record is charged now.
use Rattle.std.proofs.Common.{◌≡◌, ℕ, zero, suc, ◌+◌, ◌≤◌, List, [], ◌∷◌, ◌++◌, length, refl, sym}
use Rattle.std.proofs.Common.{ap, ◌∙◌, subst, true, false, true≢false, Bool, cond, not, ◌&&◌}
use Rattle.std.proofs.Common.{Option, arith, None, Some, Ok, ℤ, pos, ◌-ℤ◌, codes, count_by, sum_by}
use Rattle.std.proofs.Common.{decimal, ok_or, option_and_then, option_map, append-nil}
use Rattle.std.specs.Fmt.{signed_decimal}
use Rattle.book_model.proofs.Std.{false_from_ne_true, sum_by-append, sum_by-cons}
use Rattle.book_model.specs.declared.fault.LedgerFault.TheVariants.{NoSuchRecord}
use Rattle.book_model.specs.declared.trail.Deed.{Deed}
use Rattle.book_model.specs.Words.{Book, Period, Records, AreDatedThrough, all_periods, book_after}
use Rattle.book_model.specs.Words.{charged_of, has, is_charge, is_dated_after, last_close}
use Rattle.book_model.specs.Words.{life_from, life_of, net_of, Naming, TrailSeen, period_by}
use Rattle.book_model.specs.Words.{reckoning_in, record_named, trail_by, trail_of, trail_outcome}
use Rattle.book_model.specs.Words.{turn_if, turns_in, Reckoning}
use Rattle.book_model.proofs.Lemmas.{sum_by-plus}
use Rattle.report_texts.specs.Columns.{newline}
use Rattle.report_texts.specs.LifeLines.{net_line}
use Rattle.table_model.specs.Readable.{IsChain}
use Rattle.table_model.specs.Words.{chained, close_after}
use Rattle.book_lists.proofs.WritingLemmas.{same_value}
use Rattle.book_laws.proofs.Words.{Added, Charged, Reversed, Turn, net_count, one_if}
use Rattle.book_laws.proofs.LinkedLemmas.{linked_after, posted_early}
use Rattle.book_laws.proofs.NetLemmas.{has_without, in_added, in_counted, linked_nets}
use Rattle.book_laws.specs.LifeLaws.{BookLivesTakeTurns, BookTrailsNet, LivesNet, LivesTakeTurns}
use Rattle.book_laws.specs.LifeLaws.{NetsAsCounted, ShowsNet, TakeTurns, TrailsNet}

-- what comes after some turns may be replaced by what leads on from there
then_instead : (turns old new : List Turn) (from was now : Bool)
    → ((b : Bool) → TakeTurns b old was → TakeTurns b new now)
    → TakeTurns from (turns ++ old) was → TakeTurns from (turns ++ new) now
then_instead [] old new from was now leads led = leads from led
then_instead (turn ∷ turns) old new from was now leads led =
    (led.0, then_instead turns old new (is_charge turn.deed) was now leads led.1)

-- A record is charged before a period or not, at its end or not, and dated after the close before it
-- or not: what the period does with it leads from the first to the second.
by_cases : (k : ℕ) (before now late : Bool) → (before ≡ true → late ≡ false)
    → TakeTurns before
    (turn_if (late && now) k Charged
    ++ turn_if (not late && (not before && now)) k Added
    ++ turn_if (not now && before) k Reversed)
    now
by_cases k true now true old = absurd (true≢false (old refl))
by_cases k true true false old = refl
by_cases k true false false old = (refl, refl)
by_cases k false true true old = (refl, refl)
by_cases k false true false old = (refl, refl)
by_cases k false false true old = refl
by_cases k false false false old = refl

module _ (bytes : List ℕ) where
  -- so a period leads from what was charged before it to what is charged at its end
  one_period : (k : ℕ) (last : Option ℤ) (before charged : Records) → AreDatedThrough last before
      → TakeTurns (has before bytes) (turns_in k (period_by last before charged) bytes)
      (has charged bytes)
  one_period k last before charged old =
      let counted = in_counted last before charged bytes in
      let added = in_added last before charged bytes in
      let taken = has_without before charged bytes in
      subst (λ turns. TakeTurns (has before bytes) turns (has charged bytes))
      (λ i. turn_if (sym counted i) k Charged ++ turn_if (sym added i) k Added
      ++ turn_if (sym taken i) k Reversed)
      (by_cases k (has before bytes) (has charged bytes) (is_dated_after last bytes) (old bytes))

  -- one more period goes on where the others ended
  one_more : (k : ℕ) (periods : List Period) (last : Option ℤ) (start : Bool)
      (before charged : Records) → AreDatedThrough last before
      → TakeTurns start (life_from k periods bytes) (has before bytes)
      → TakeTurns start (life_from k (periods ++ period_by last before charged ∷ []) bytes)
      (has charged bytes)
  one_more k [] last start before charged old led =
      let own = turns_in k (period_by last before charged) bytes in
      subst (λ turns. TakeTurns start turns (has charged bytes)) (sym (append-nil own))
      (subst (λ b. TakeTurns b own (has charged bytes)) (sym led)
      (one_period k last before charged old))
  one_more k (first ∷ later) last start before charged old led =
      then_instead (turns_in k first bytes) (life_from (suc k) later bytes)
      (life_from (suc k) (later ++ period_by last before charged ∷ []) bytes) start
      (has before bytes) (has charged bytes)
      (λ from. one_more (suc k) later last from before charged old) led

  -- periods that are linked by what was charged
  chained_turns : (closes : List ℤ) (charged : ℕ → Records)
      → ((k : ℕ) → k ≤ length closes → AreDatedThrough (close_after k closes) (charged k))
      → (k : ℕ) → k ≤ length closes
      → TakeTurns false (life_from 1 (chained k closes charged) bytes) (has (charged k) bytes)
  chained_turns closes charged dated zero within =
      sym (false_from_ne_true (has (charged 0) bytes) (λ there.
      true≢false (dated 0 within bytes there)))
  chained_turns closes charged dated (suc k) within =
      let before : k ≤ length closes = omega (arith, within) in
      one_more 1 (chained k closes charged) (close_after k closes) false (charged k)
      (charged (suc k)) (dated k before) (chained_turns closes charged dated k before)

  -- so all periods of a book that is linked
  linked_turns : (book : Book) → IsChain book
      → TakeTurns false (life_of book bytes) (has (charged_of book) bytes)
  linked_turns book linked =
      let closes : List ℤ = book.rulings.closes in
      let past : List Period = chained (length closes) closes linked.charged in
      let led = chained_turns closes linked.charged linked.dated (length closes) (omega arith) in
      one_more 1 book.past (last_close book.rulings) false book.posted (charged_of book)
      (posted_early book linked)
      (subst (λ (past : List Period).
      TakeTurns false (life_from 1 past bytes) (has book.posted bytes)) (sym linked.past)
      (subst (λ (posted : Records). TakeTurns false (life_from 1 past bytes) (has posted bytes))
      (sym linked.posted) led))

-- the law, of histories
pub lives_take_turns : LivesTakeTurns
lives_take_turns history bytes = linked_turns bytes (book_after history) (linked_after history)

-- and of books that can be read back
pub book_lives_take_turns : BookLivesTakeTurns
book_lives_take_turns naming book bytes whole = linked_turns bytes book whole.past

-- how often a test passes in three lists of one turn or none
count_three : (p : Turn → Bool) (one two three : List Turn)
    → count_by p (one ++ two ++ three) ≡ count_by p one + count_by p two + count_by p three
count_three p one two three =
    let f : Turn → ℕ = λ turn. cond (p turn) 1 0 in
    let both = sum_by-append f (one ++ two) three in
    let first = sum_by-append f one two in
    omega arith

-- a turn counts where it is there and passes
count_turn : (p : Turn → Bool) (test : Bool) (k : ℕ) (deed : Deed) (passes : Bool)
    → p (record { period = k; deed = deed }) ≡ passes
    → count_by p (turn_if test k deed) ≡ one_if (test && passes)
count_turn p false k deed passes is = refl
count_turn p true k deed passes is =
    let turn : Turn = record { period = k; deed = deed } in
    let own = sum_by-cons (λ turn. cond (p turn) 1 0) turn [] in
    let one = ap one_if is in
    omega arith

-- a test and one that holds, and a test and one that fails
and_true : (b : Bool) → one_if (b && true) ≡ one_if b
and_true true = refl
and_true false = refl

and_false : (b : Bool) → one_if (b && false) ≡ 0
and_false true = refl
and_false false = refl

module _ (bytes : List ℕ) where
  abbrev charges : Turn → Bool
  charges turn = is_charge turn.deed

  abbrev reverses : Turn → Bool
  reverses turn = not (is_charge turn.deed)

  -- the charges of a period
  charged_by : (k : ℕ) (period : Period) → count_by charges (turns_in k period bytes)
      ≡ one_if (has period.counted bytes) + one_if (has period.added bytes)
  charged_by k period =
      let counted = has period.counted bytes in
      let added = has period.added bytes in
      let taken = has period.taken bytes in
      let all = count_three charges (turn_if counted k Charged) (turn_if added k Added)
      (turn_if taken k Reversed) in
      let first = count_turn charges counted k Charged true refl ∙ and_true counted in
      let second = count_turn charges added k Added true refl ∙ and_true added in
      let third = count_turn charges taken k Reversed false refl ∙ and_false taken in
      omega arith

  -- its reversals
  reversed_by : (k : ℕ) (period : Period) → count_by reverses (turns_in k period bytes)
      ≡ one_if (has period.taken bytes)
  reversed_by k period =
      let counted = has period.counted bytes in
      let added = has period.added bytes in
      let taken = has period.taken bytes in
      let all = count_three reverses (turn_if counted k Charged) (turn_if added k Added)
      (turn_if taken k Reversed) in
      let first = count_turn reverses counted k Charged false refl ∙ and_false counted in
      let second = count_turn reverses added k Added false refl ∙ and_false added in
      let third = count_turn reverses taken k Reversed true refl ∙ and_true taken in
      omega arith

  -- turns of a life that pass a test are those of each period
  count_life : (p : Turn → Bool) (in_one : Period → ℕ)
      → ((k : ℕ) (period : Period) → count_by p (turns_in k period bytes) ≡ in_one period)
      → (k : ℕ) (periods : List Period)
      → count_by p (life_from k periods bytes) ≡ sum_by in_one periods
  count_life p in_one own k [] = refl
  count_life p in_one own k (period ∷ later) =
      let f : Turn → ℕ = λ turn. cond (p turn) 1 0 in
      let both = sum_by-append f (turns_in k period bytes) (life_from (suc k) later bytes) in
      let first = own k period in
      let rest = count_life p in_one own (suc k) later in
      let all = sum_by-cons in_one period later in
      omega arith

  -- so a life nets as its record is counted
  life_nets : (book : Book) → net_of (life_of book bytes) ≡ net_count (all_periods book) bytes
  life_nets book =
      let counted : Period → ℕ = λ period. one_if (has period.counted bytes) in
      let added : Period → ℕ = λ period. one_if (has period.added bytes) in
      let given = count_life charges (λ period. counted period + added period) charged_by 1
      (all_periods book)
      ∙ sum_by-plus counted added (all_periods book) in
      let taken = count_life reverses (λ period. one_if (has period.taken bytes)) reversed_by 1
      (all_periods book) in
      λ i. pos (given i) -ℤ pos (taken i)

-- and in a book that is linked it nets to whether the record is charged now
nets_so : (book : Book) (bytes : List ℕ) → IsChain book → NetsAsCounted book bytes
nets_so book bytes linked = record {
  counted = life_nets bytes book;
  charged = life_nets bytes book ∙ linked_nets bytes book linked;
}

-- the law
pub lives_net : LivesNet
lives_net history bytes = nets_so (book_after history) bytes (linked_after history)

-- a trail that was made of a record has its life
of_reckoning : (naming : Naming) (book : Book) (bytes : List ℕ) (reckoning : Option Reckoning)
    (trail : TrailSeen)
    → ok_or (option_map (trail_by naming book bytes) reckoning) NoSuchRecord ≡ Ok trail
    → trail.life ≡ life_of book trail.bytes
of_reckoning naming book bytes None trail is = cc
of_reckoning naming book bytes (Some reckoning) trail is =
    subst (λ trail. trail.life ≡ life_of book trail.bytes) (same_value is) refl

-- so does a trail that is answered
trail_life : (naming : Naming) (book : Book) (found : Option (List ℕ)) (trail : TrailSeen)
    → ok_or (option_and_then (trail_of naming book) found) NoSuchRecord ≡ Ok trail
    → trail.life ≡ life_of book trail.bytes
trail_life naming book None trail is = cc
trail_life naming book (Some bytes) trail is =
    of_reckoning naming book bytes (reckoning_in book.rulings bytes) trail is

-- the line of a net that is known
net_written : (life : List Turn) (n : ℕ) → net_of life ≡ pos n
    → net_line life ≡ codes "NET " ++ decimal n ++ newline
unfolding net_line
net_written life n is = ap (λ net. codes "NET " ++ signed_decimal net ++ newline) is

-- so a trail that a linked book answers shows its net
shows_net : (naming : Naming) (book : Book) (name : List ℕ) (trail : TrailSeen) → IsChain book
    → (trail_outcome naming name book).answer ≡ Ok trail → ShowsNet book trail
shows_net naming book name trail linked answered =
    let life = ap net_of (trail_life naming book (record_named naming book.held name) trail answered) in
    let nets = nets_so book trail.bytes linked in
    record {
      counted = life ∙ nets.counted;
      shown = net_written trail.life (one_if (has (charged_of book) trail.bytes))
          (life ∙ nets.charged);
    }

-- the law, of histories
pub trails_net : TrailsNet
trails_net naming history name trail answered =
    shows_net naming (book_after history) name trail (linked_after history) answered

-- and of books that can be read back
pub book_trails_net : BookTrailsNet
book_trails_net naming book name trail whole answered =
    shows_net naming book name trail whole.past answered
