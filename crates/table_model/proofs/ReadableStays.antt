-- Each call that is an event leaves a book that can be read back.
use Rattle.std.proofs.Common.{◌≡◌, ◌∙◌, ◌++◌, ◌+◌, ◌∷◌, [], ℕ, zero, suc, List, length, refl, sym}
use Rattle.std.proofs.Common.{ap, subst, true, false, Bool, ◌||◌, Option, Some, None, Ok, Err}
use Rattle.std.proofs.Common.{arith, ◌≤◌, ◌<◌, nat_le, nat_lt, if◌then◌else◌, All, unwrap_or, ℤ}
use Rattle.std.proofs.Common.{ltb-false, leb-false, length-append, not, filter, map, true≢false}
use Rattle.book_model.proofs.Std.{nat_tests, All-cons, All-filter, All-head, All-nil}
use Rattle.book_model.proofs.Std.{All-push, All-tail, All-weaker}
use Rattle.book_model.specs.declared.answer.Accepted.TheVariants.{Kept}
use Rattle.book_model.specs.declared.answer.Ruled.TheVariants.{Done}
use Rattle.book_model.specs.declared.fault.LedgerFault.TheVariants.{Full}
use Rattle.book_model.specs.Words.{AreDatedThrough, AcceptedTerms, Book, Choice, Event, IsDay}
use Rattle.book_model.specs.Words.{IsAnswered, IsSound, IsUsageRecord, Naming, PeriodClosed}
use Rattle.book_model.specs.Words.{RecordChosen, RecordKept, Records, Rulings, RulingGiven}
use Rattle.book_model.specs.Words.{SecondRuleAdopted, TariffAccepted, Terms, accept_answer}
use Rattle.book_model.specs.Words.{accept_priced, after, give, choose_answer, chosen_answer, close}
use Rattle.book_model.specs.Words.{close_answer, keep, last_close, members, most_choices, most_cost}
use Rattle.book_model.specs.Words.{most_held, name_of, open_by, open_number, period_by, price_in}
use Rattle.book_model.specs.Words.{record_named, terms_answer, total_of, with, with_tariff}
use Rattle.book_model.specs.Words.{CreditGiven, Ruling, TariffReplaced, WorkWithheld, with_named}
use Rattle.book_model.specs.Words.{with_ruling, withheld_answer, withhold_answer, Credit}
use Rattle.book_model.specs.Words.{IsCreditOf, credit_answer, most_credits}
use Rattle.book_model.specs.Words.{Replaced, is_effective, most_replaced, or_new, replace_answer}
use Rattle.book_model.specs.Words.{replaced_in, with_replaced}
use Rattle.book_model.proofs.Lemmas.{calls_go_forward, later-before, rising-behind, slice_get-front}
use Rattle.book_model.proofs.Lemmas.{one_or, steps_stay_sound, closed_open, kept_passes}
use Rattle.book_model.proofs.Lemmas.{tariff_passes}
use Rattle.book_model.proofs.TestLemmas.{choice_passes, close_passes, credit_passes, replace_passes}
use Rattle.book_model.proofs.TestLemmas.{withhold_passes}
use Rattle.book_model.proofs.ReplacedLemmas.{replaced_rising}
use Rattle.book_model.specs.Words.{Entry, ImportBegun, ImportEnded, ImportRead, changed_by}
use Rattle.book_model.specs.Words.{entries_after}
use Rattle.book_model.proofs.MadeByCallsLemmas.{sound_still}
use Rattle.table_model.specs.Words.{close_after, ArePriced, IsSubmittedTo, IsBegun, IsReadable}
use Rattle.table_model.specs.Words.{IsTexted, IsTimely, chained, BookRow}
use Rattle.table_model.specs.FromCalls.{IsReadFrom, IsSubmitted}
use Rattle.table_model.specs.PeriodLists.{HasLines}
use Rattle.table_model.specs.Readable.{IsChain, IsCredited, IsReplaced}
use Rattle.table_model.proofs.CloseDays.{posted_by}
use Rattle.table_model.proofs.CloseOrder.{rise_behind}
use Rattle.table_model.proofs.CountedReading.{last_after}
use Rattle.table_model.proofs.KeptPrice.{kept_cost}
use Rattle.table_model.proofs.LinesStay.{lines_stay}
use Rattle.table_model.proofs.RecordChanges.{book_row-with}
use Rattle.table_model.proofs.ReplacedChanges.{replaced_alone}

-- What the closes charged, with one close more, which posts this.
module _ (closes : List ℤ) (day : ℤ) (charged : ℕ → Records) (posted : Records) where
  abbrev charged_on : ℕ → Records
  charged_on k = if nat_le k (length closes) then charged k else posted

  -- the earlier ones charged what they did,
  still_charged : (k : ℕ) → k ≤ length closes → charged_on k ≡ charged k
  still_charged k within =
      let early : nat_le k (length closes) ≡ true = grind (arith, nat_tests, within) in
      ap (λ b. if b then charged k else posted) early

  -- through the same days,
  still_after : (k : ℕ) → k ≤ length closes
      → close_after k (closes ++ day ∷ []) ≡ close_after k closes
  still_after zero within = refl
  still_after (suc k) within = slice_get-front closes day k (omega (arith, within))

  -- and made the same periods;
  still_chained : (k : ℕ) → k ≤ length closes
      → chained k closes charged ≡ chained k (closes ++ day ∷ []) charged_on
  still_chained zero within = refl
  still_chained (suc k) within =
      let before : k ≤ length closes = omega (arith, within) in
      let earlier = still_chained k before in
      let last = sym (still_after k before) in
      let first = sym (still_charged k before) in
      let end = sym (still_charged (suc k) within) in
      λ i. earlier i ++ period_by (last i) (first i) (end i) ∷ []

  -- and the last one charged what it posts
  now_charged : charged_on (suc (length closes)) ≡ posted
  now_charged =
      let late : nat_le (suc (length closes)) (length closes) ≡ false = grind (arith, nat_tests) in
      ap (λ b. if b then charged (suc (length closes)) else posted) late

-- so the closed periods stay linked by what the closes charged
close_chain : (naming : Naming) (book : Book) (day : ℤ) → IsChain book
    → IsSound naming (close day book) → IsChain (close day book)
close_chain naming book day chain sound =
    let closes : List ℤ = book.rulings.closes in
    let posted : Records = posted_by day book in
    let on : ℕ → Records = charged_on closes day chain.charged posted in
    let within : length closes ≤ length closes = omega arith in
    let more = length-append closes (day ∷ []) in
    let count : suc (length closes) ≡ length (closes ++ day ∷ []) = omega (arith, more) in
    let earlier = chain.past
    ∙ still_chained closes day chain.charged posted (length closes) within in
    let last : last_close book.rulings ≡ close_after (length closes) (closes ++ day ∷ []) =
    last_after closes ∙ sym (still_after closes day chain.charged posted (length closes) within) in
    let before : book.posted ≡ on (length closes) =
    chain.posted ∙ sym (still_charged closes day chain.charged posted (length closes) within) in
    let now : posted ≡ on (suc (length closes)) =
    sym (now_charged closes day chain.charged posted) in
    let past : (close day book).past ≡ chained (suc (length closes)) (closes ++ day ∷ []) on =
    (λ i. earlier i ++ period_by (last i) (before i) (now i) ∷ []) in
    record {
      charged = on;
      past = subst (λ m. (close day book).past ≡ chained m (closes ++ day ∷ []) on) count past;
      posted = now ∙ ap on count;
      dated = λ k came.
          elim (nat_le k (length closes)) as (λ b. nat_le k (length closes) ≡ b
          → AreDatedThrough (close_after k (closes ++ day ∷ []))
          (if b then chain.charged k else posted)) [
            | true ↦ λ is.
                let early : k ≤ length closes = grind (arith, nat_tests, is) in
                subst (λ last. AreDatedThrough last (chain.charged k))
                (sym (still_after closes day chain.charged posted k early)) (chain.dated k early)
            | false ↦ λ is.
                let late = leb-false k (length closes) is in
                let so_far : k ≤ length (closes ++ day ∷ []) = came in
                let its : length (closes ++ day ∷ []) ≡ k = omega (arith, late, so_far, count) in
                subst (λ last. AreDatedThrough last posted)
                (last_after (closes ++ day ∷ [])
                ∙ ap (λ m. close_after m (closes ++ day ∷ [])) its) sound.dated
          ] refl;
    }

-- the tests that a record passed if it is kept: there is room for it
leaves_both : (full dear : Bool) → (if full || dear then Err Full else Ok Kept) ≡ Ok Kept
    → (full ≡ false) × (dear ≡ false)
leaves_both true dear kept = cc
leaves_both false true kept = cc
leaves_both false false kept = (refl, refl)

-- of two tests neither holds
no_fault : (a b : Bool) → (a || b) ≡ false → (a ≡ false) × (b ≡ false)
no_fault true b neither = absurd (true≢false neither)
no_fault false b neither = (refl, neither)

-- tariffs with texts, one of which is replaced by one with a text
all_texted : (new : AcceptedTerms) → IsTexted new → (tariffs : List AcceptedTerms)
    → All IsTexted tariffs → All IsTexted (map (or_new new) tariffs)
all_texted new texted [] all = All-nil IsTexted
all_texted new texted (tariff ∷ tariffs) all =
    All-cons IsTexted (or_new new tariff) (map (or_new new) tariffs)
    (elim (is_effective new.terms.effective tariff) as (λ b. IsTexted (if b then new else tariff)) [
      | true ↦ texted
      | false ↦ All-head IsTexted tariff tariffs all
    ])
    (all_texted new texted tariffs (All-tail IsTexted tariff tariffs all))

-- the one of some tariffs that passes a test has a text
one_of_filter : (p : AcceptedTerms → Bool) (tariffs : List AcceptedTerms) (one : AcceptedTerms)
    → filter p tariffs ≡ one ∷ [] → All IsTexted tariffs → IsTexted one
one_of_filter p tariffs one is all =
    All-head IsTexted one [] (subst (All IsTexted) is (All-filter p IsTexted tariffs all))

module _ (naming : Naming) (book : Book) (whole : IsReadable naming book) where
  -- the periods of choices, and that of the adoption, have begun in all later books
  still_begun : (later : Book) → open_number book ≤ open_number later
      → All (IsTimely later) book.rulings.choices
      × ((period : ℕ) → book.rulings.adopted ≡ Some period → IsBegun later period)
      × All (IsCredited later) book.rulings.credits
      × All (IsReplaced later) book.rulings.replaced
  still_begun later goes_on = (
    All-weaker (IsTimely book) (IsTimely later) (λ choice. begun choice.period)
        book.rulings.choices whole.timely,
    λ period is. begun period (whole.adopted period is),
    All-weaker (IsCredited book) (IsCredited later)
        (λ credit was. record { begun = begun credit.period was.begun; said = was.said })
        book.rulings.credits whole.credited,
    All-weaker (IsReplaced book) (IsReplaced later)
        (λ replaced was. record { begun = begun replaced.period was.begun; texted = was.texted })
        book.rulings.replaced whole.replaced,
  )
    where
      begun : (period : ℕ) → IsBegun book period → IsBegun later period
      begun period was =
          let before = was.begun in record { numbered = was.numbered; begun = omega arith }

  -- and the closed periods stay linked where no period is closed
  still_linked : (later : Book) → later.past ≡ book.past → later.posted ≡ book.posted
      → later.rulings.closes ≡ book.rulings.closes → IsChain later
  still_linked later past posted closes = record {
    charged = whole.past.charged;
    past = past ∙ whole.past.past
        ∙ ap (λ days. chained (length days) days whole.past.charged) (sym closes);
    posted = posted ∙ whole.past.posted ∙ ap (λ days. whole.past.charged (length days)) (sym closes);
    dated = subst (λ days. (k : ℕ) → k ≤ length days
        → AreDatedThrough (close_after k days) (whole.past.charged k)) (sym closes) whole.past.dated;
  }

  -- a record that is kept
  keep_stays : (bytes : List ℕ) → IsSubmitted book.rulings bytes
      → accept_answer naming book bytes ≡ Ok Kept → IsReadable naming (keep bytes book)
  keep_stays bytes handed kept =
      let cost = kept_cost naming book bytes kept in
      let held : ℕ = length (members book.held) in
      let total : ℕ = total_of book.rulings book.held + cost.0.amount in
      let tests = kept_passes naming book bytes kept in
      let room = leaves_both (nat_le most_held held) (nat_lt most_cost total)
      (ap (accept_priced book) (sym cost.1) ∙ tests.fits) in
      let few : held + 1 ≤ most_held = omega (arith, leb-false most_held held room.0) in
      let still = still_begun (keep bytes book) (omega arith) in
      let row = book_row-with book.rulings book.held bytes cost.0 tests.is_new cost.1 in
      let count : length (members (with book.held bytes)) ≡ length (members book.held) + 1 =
      ap (λ (row : BookRow). row.held) row in
      let amount : total_of book.rulings (with book.held bytes)
      ≡ total_of book.rulings book.held + cost.0.amount = ap (λ (row : BookRow). row.amount) row in
      record {
        sound = steps_stay_sound.keep naming book bytes whole.sound kept;
        lines = lines_stay.keep book bytes whole.lines handed.usage.framed;
        usage = λ other there.
            one_or book.held bytes other there (λ same. subst IsUsageRecord (sym same) handed.usage)
            (λ held. whole.usage other held);
        priced = λ other priced there price.
            one_or book.held bytes other there
            (λ same. handed.priced priced (ap (price_in book.rulings) (sym same) ∙ price))
            (λ held. whole.priced other priced held price);
        texts = whole.texts;
        rising = whole.rising;
        days = whole.days;
        in_order = whole.in_order;
        timely = still.0;
        adopted = still.1;
        past = still_linked (keep bytes book) refl refl refl;
        replaced = still.3;
        credited = still.2;
        limits = record {
          held = subst (λ n. n ≤ most_held) (sym count) few;
          cost = subst (λ n. n ≤ most_cost) (sym amount) (ltb-false most_cost total room.1);
          closes = whole.limits.closes;
          choices = whole.limits.choices;
          credits = whole.limits.credits;
          replaced = whole.limits.replaced;
        };
      }

  -- a tariff that is put in force
  tariff_stays : (text : List ℕ) (terms : Terms) → IsReadFrom text terms
      → ArePriced (with_tariff (Some text) terms book.rulings) book.held
      → terms_answer book text terms ≡ Ok Done
      → IsReadable naming (give (TariffAccepted (Some text) terms) book)
  tariff_stays text terms said priced done =
      let later : AcceptedTerms = record { text = Some text; terms = terms } in
      let ruled : Rulings = with_tariff (Some text) terms book.rulings in
      let tests = tariff_passes book text terms done in
      let still = still_begun (give (TariffAccepted (Some text) terms) book) (omega arith) in
      record {
        sound = steps_stay_sound.tariff naming book text terms whole.sound done;
        lines = lines_stay.ruling book (TariffAccepted (Some text) terms) whole.lines;
        usage = whole.usage;
        priced = λ bytes one there price. priced bytes one there price;
        texts = All-push IsTexted book.rulings.tariffs later whole.texts (record {
          text = text;
          is = refl;
          characters = said.characters;
          said = said.said;
          day = said.day;
        });
        rising = rising-behind book.rulings.tariffs later whole.rising
            (later-before terms.effective book.rulings tests.later);
        days = whole.days;
        in_order = whole.in_order;
        timely = still.0;
        adopted = still.1;
        past = still_linked (give (TariffAccepted (Some text) terms) book) refl refl refl;
        replaced = still.3;
        credited = still.2;
        limits = record {
          held = whole.limits.held;
          cost = ltb-false most_cost (total_of ruled book.held) tests.fits;
          closes = whole.limits.closes;
          choices = whole.limits.choices;
          credits = whole.limits.credits;
          replaced = whole.limits.replaced;
        };
      }

  -- a period that is closed
  close_stays : (number : ℕ) (day : ℤ) → IsDay day → close_answer book.rulings number day ≡ Ok Done
      → IsReadable naming (close day book)
  close_stays number day on done =
      let is_open : number ≡ length book.rulings.closes + 1 = closed_open book number day done in
      let full = (close_passes book number day done).room in
      let more = length-append book.rulings.closes (day ∷ []) in
      let few = whole.limits.closes in
      let still = still_begun (close day book) (omega arith) in
      let sound = steps_stay_sound.close naming book number day whole.sound done in
      record {
        sound = sound;
        lines = lines_stay.close book day whole.lines;
        usage = whole.usage;
        priced = whole.priced;
        texts = whole.texts;
        rising = whole.rising;
        days = All-push IsDay book.rulings.closes day whole.days on;
        in_order = rise_behind book.rulings.closes day whole.in_order
            (calls_go_forward.close book number day done);
        timely = still.0;
        adopted = still.1;
        past = close_chain naming book day whole.past sound;
        replaced = still.3;
        credited = still.2;
        limits = record {
          held = whole.limits.held;
          cost = whole.limits.cost;
          closes = grind (arith, nat_tests);
          choices = whole.limits.choices;
          credits = whole.limits.credits;
          replaced = whole.limits.replaced;
        };
      }

  -- one choice more, of a record or of none
  named_stays : (counts : Bool) (bytes : List ℕ) (ruling : Ruling)
      → with_ruling ruling book.rulings ≡ with_named counts bytes book.rulings
      → nat_le most_choices (length book.rulings.choices) ≡ false
      → IsSound naming (give ruling book) → IsReadable naming (give ruling book)
  named_stays counts bytes ruling is full sound =
      let choice : Choice =
      record { chosen = bytes; counts = counts; period = open_by book.rulings } in
      let more = length-append book.rulings.choices (choice ∷ []) in
      let room : length book.rulings.choices < most_choices =
      leb-false most_choices (length book.rulings.choices) full in
      let named : Book = record book { rulings = with_named counts bytes book.rulings } in
      let same : give ruling book ≡ named = λ i. record book { rulings = is i } in
      let still = still_begun named (omega arith) in
      subst (IsReadable naming) (sym same) (record {
        sound = subst (IsSound naming) same sound;
        lines = subst HasLines same (lines_stay.ruling book ruling whole.lines);
        usage = whole.usage;
        priced = whole.priced;
        texts = whole.texts;
        rising = whole.rising;
        days = whole.days;
        in_order = whole.in_order;
        timely = All-push (IsTimely named) book.rulings.choices choice
            still.0
            (record { numbered = omega arith; begun = omega arith });
        adopted = still.1;
        past = still_linked named refl refl refl;
        replaced = still.3;
        credited = still.2;
        limits = record {
          held = whole.limits.held;
          cost = whole.limits.cost;
          closes = whole.limits.closes;
          choices = omega arith;
          credits = whole.limits.credits;
          replaced = whole.limits.replaced;
        };
      })

  -- a record that is chosen
  choose_stays : (name bytes : List ℕ) → choose_answer naming book name ≡ Ok Done
      → record_named naming book.held name ≡ Some bytes
      → IsReadable naming (give (RecordChosen bytes) book)
  choose_stays name bytes done found =
      named_stays true bytes (RecordChosen bytes) refl
      (choice_passes book bytes (ap (chosen_answer book) (sym found) ∙ done)).room
      (steps_stay_sound.choose naming book name bytes whole.sound found)

  -- a work that is withheld
  withhold_stays : (name bytes : List ℕ) → withhold_answer naming book name ≡ Ok Done
      → record_named naming book.held name ≡ Some bytes
      → IsReadable naming (give (WorkWithheld bytes) book)
  withhold_stays name bytes done found =
      named_stays false bytes (WorkWithheld bytes) refl
      (withhold_passes book bytes (ap (withheld_answer book) (sym found) ∙ done)).room
      (steps_stay_sound.withhold naming book name bytes whole.sound found)

  -- a text that takes the place of a tariff
  replace_stays : (text : List ℕ) (terms : Terms) → IsReadFrom text terms
      → ArePriced (with_replaced text terms book.rulings) book.held
      → replace_answer book text terms ≡ Ok Done
      → IsReadable naming (give (TariffReplaced text terms) book)
  replace_stays text terms said priced done =
      let new : AcceptedTerms = record { text = Some text; terms = terms } in
      let ruled : Rulings = with_replaced text terms book.rulings in
      let later : Book = give (TariffReplaced text terms) book in
      let dear : Bool = nat_lt most_cost (total_of ruled book.held) in
      let room = no_fault dear (nat_le most_replaced (length book.rulings.replaced))
      (replace_passes book text terms done).fits in
      let few : length book.rulings.replaced < most_replaced =
      leb-false most_replaced (length book.rulings.replaced) room.1 in
      let one = replaced_alone new book.rulings.tariffs whole.rising
      (replace_passes book text terms done).found in
      let is : Replaced = record { tariff = one.0; period = open_number book } in
      let all : ruled.replaced ≡ book.rulings.replaced ++ is ∷ [] =
      ap (λ some. book.rulings.replaced ++ map (replaced_in (open_number book)) some) one.1 in
      let more = length-append book.rulings.replaced (is ∷ []) in
      let still = still_begun later (omega arith) in
      record {
        sound = steps_stay_sound.replace naming book text terms whole.sound;
        lines = lines_stay.ruling book (TariffReplaced text terms) whole.lines;
        usage = whole.usage;
        priced = λ bytes one there price. priced bytes one there price;
        texts = all_texted new (record {
          text = text;
          is = refl;
          characters = said.characters;
          said = said.said;
          day = said.day;
        }) book.rulings.tariffs whole.texts;
        rising = replaced_rising new book.rulings.tariffs whole.rising;
        days = whole.days;
        in_order = whole.in_order;
        timely = still.0;
        adopted = still.1;
        past = still_linked later refl refl refl;
        replaced = subst (All (IsReplaced later)) (sym all)
            (All-push (IsReplaced later) book.rulings.replaced is still.3 (record {
              begun = record { numbered = omega arith; begun = omega arith };
              texted = one_of_filter (is_effective terms.effective) book.rulings.tariffs one.0
                  one.1 whole.texts;
            }));
        credited = still.2;
        limits = record {
          held = whole.limits.held;
          cost = ltb-false most_cost (total_of ruled book.held) room.0;
          closes = whole.limits.closes;
          choices = whole.limits.choices;
          credits = whole.limits.credits;
          replaced = subst (λ (some : List Replaced). length some ≤ most_replaced) (sym all)
              (omega arith);
        };
      }

  -- a credit
  credit_stays : (centre : List ℕ) (amount : ℤ) (reason : List ℕ) → IsCreditOf centre amount reason
      → credit_answer book.rulings (open_number book) centre amount reason ≡ Ok Done
      → IsReadable naming (give (CreditGiven centre amount reason) book)
  credit_stays centre amount reason said done =
      let later : Book = give (CreditGiven centre amount reason) book in
      let credit : Credit = record {
        centre = centre;
        amount = amount;
        reason = reason;
        period = open_by book.rulings;
      } in
      let more = length-append book.rulings.credits (credit ∷ []) in
      let room : length book.rulings.credits < most_credits =
      leb-false most_credits (length book.rulings.credits)
      (credit_passes book (open_number book) centre amount reason done).room in
      let still = still_begun later (omega arith) in
      record {
        sound = steps_stay_sound.credit naming book centre amount reason whole.sound;
        lines = lines_stay.ruling book (CreditGiven centre amount reason) whole.lines;
        usage = whole.usage;
        priced = whole.priced;
        texts = whole.texts;
        rising = whole.rising;
        days = whole.days;
        in_order = whole.in_order;
        timely = still.0;
        adopted = still.1;
        past = still_linked later refl refl refl;
        replaced = still.3;
        credited = All-push (IsCredited later) book.rulings.credits credit still.2
            (record { begun = record { numbered = omega arith; begun = omega arith }; said = said });
        limits = record {
          held = whole.limits.held;
          cost = whole.limits.cost;
          closes = whole.limits.closes;
          choices = whole.limits.choices;
          credits = omega arith;
          replaced = whole.limits.replaced;
        };
      }

  -- the second rule of identity that is adopted: in an earlier period, or in the open one
  adopt_stays : IsReadable naming (give SecondRuleAdopted book)
  adopt_stays = record {
    sound = steps_stay_sound.adopt naming book whole.sound;
    lines = lines_stay.ruling book SecondRuleAdopted whole.lines;
    usage = whole.usage;
    priced = whole.priced;
    texts = whole.texts;
    rising = whole.rising;
    days = whole.days;
    in_order = whole.in_order;
    timely = (still_begun (give SecondRuleAdopted book) (omega arith)).0;
    adopted = adopted_in book.rulings.adopted refl;
    past = still_linked (give SecondRuleAdopted book) refl refl refl;
    replaced = (still_begun (give SecondRuleAdopted book) (omega arith)).3;
    credited = (still_begun (give SecondRuleAdopted book) (omega arith)).2;
    limits = record {
      held = whole.limits.held;
      cost = whole.limits.cost;
      closes = whole.limits.closes;
      choices = whole.limits.choices;
      credits = whole.limits.credits;
      replaced = whole.limits.replaced;
    };
  }
    where
      adopted_in : (before : Option ℕ) → book.rulings.adopted ≡ before → (period : ℕ)
          → Some (unwrap_or before (open_number book)) ≡ Some period
          → IsBegun (give SecondRuleAdopted book) period
      adopted_in None none period is =
          let same : open_number book ≡ period = cc in
          record { numbered = omega arith; begun = omega arith }
      adopted_in (Some other) was period is =
          (still_begun (give SecondRuleAdopted book) (omega arith)).1 period (was ∙ is)

-- an event, but for the journal
readable_changed : (naming : Naming) (book : Book) (event : Event) → IsReadable naming book
    → IsSubmittedTo book event → IsAnswered naming event book → IsReadable naming (changed_by event book)
readable_changed naming book (RecordKept bytes) whole handed answered =
    keep_stays naming book whole bytes handed answered
readable_changed naming book (PeriodClosed said day) whole handed answered =
    close_stays naming book whole (open_number book) day handed answered
readable_changed naming book (RulingGiven said (TariffAccepted (Some text) terms)) whole handed answered =
    tariff_stays naming book whole text terms handed.0 handed.1 answered
readable_changed naming book (RulingGiven said (TariffAccepted None terms)) whole none answered =
    absurd none
readable_changed naming book (RulingGiven said (RecordChosen bytes)) whole handed answered =
    choose_stays naming book whole (name_of naming bytes) bytes answered.0 answered.1
readable_changed naming book (RulingGiven said (WorkWithheld bytes)) whole handed answered =
    withhold_stays naming book whole (name_of naming bytes) bytes answered.0 answered.1
readable_changed naming book (RulingGiven said (TariffReplaced text terms)) whole handed answered =
    replace_stays naming book whole text terms handed.0 handed.1 answered
readable_changed naming book (RulingGiven said (CreditGiven centre amount reason)) whole handed answered =
    credit_stays naming book whole centre amount reason handed answered
readable_changed naming book (RulingGiven said SecondRuleAdopted) whole handed answered =
    adopt_stays naming book whole
readable_changed naming book (ImportBegun note) whole handed answered = whole
readable_changed naming book (ImportRead reading) whole handed answered = whole
readable_changed naming book (ImportEnded ending) whole handed answered = whole

-- a book can be read back whatever its journal
pub readable_still : (naming : Naming) (book : Book) (entries : List Entry) → IsReadable naming book
    → IsReadable naming (record book { journal = entries })
readable_still naming book entries whole =
    let later : Book = record book { journal = entries } in
    let still = still_begun naming book whole later (omega arith) in
    record {
      sound = sound_still naming book entries whole.sound;
      lines = record {
        framed = whole.lines.framed;
        apart = whole.lines.apart;
      };
      usage = whole.usage;
      priced = whole.priced;
      texts = whole.texts;
      rising = whole.rising;
      days = whole.days;
      in_order = whole.in_order;
      timely = still.0;
      adopted = still.1;
      past = still_linked naming book whole later refl refl refl;
      replaced = still.3;
      credited = still.2;
      limits = record {
        held = whole.limits.held;
        cost = whole.limits.cost;
        closes = whole.limits.closes;
        choices = whole.limits.choices;
        credits = whole.limits.credits;
        replaced = whole.limits.replaced;
      };
    }

-- an event
pub readable_stays : (naming : Naming) (book : Book) (event : Event) → IsReadable naming book
    → IsSubmittedTo book event → IsAnswered naming event book → IsReadable naming (after event book)
readable_stays naming book event whole handed answered =
    readable_still naming (changed_by event book)
    (entries_after event book.rulings book.journal)
    (readable_changed naming book event whole handed answered)
