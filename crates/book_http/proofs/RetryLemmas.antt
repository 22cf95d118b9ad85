-- A request after one that was hindered.
use Rattle.std.proofs.Common.{◌≡◌, ◌∙◌, ◌⊎◌, inl, inr, ℕ, Bool, false, List, [], ◌++◌, None, sym}
use Rattle.std.proofs.Common.{ap, subst, append-nil}
use Rattle.book_model.specs.Words.{Layout, front, Book, Event, after_all, Naming}
use Rattle.book_model.specs.JournalLaws.{unjournaled, without_notes}
use Rattle.book_model.proofs.JournalLemmas.{journal_stands_apart}
use Rattle.book_import.specs.Laws.{book_after_import}
use Rattle.book_import.proofs.RetryLemmas.{stops_are_mended}
use Rattle.book_import.proofs.RepeatLemmas.{is_whole}
use Rattle.office.proofs.RunLemmas.{both_apart, next_alone}
use Rattle.book_http.proofs.Words.{RequestHead, Receipt, Stop, stop_after, Handles, whole_dump}
use Rattle.book_http.proofs.Words.{asked, office_reply, AnswersImport, AnswersAsked, Answers, done}
use Rattle.book_http.proofs.Words.{no_memory, no_head, a_head, HasHead, IsUnhindered, Reply}
use Rattle.book_http.proofs.Words.{AnswersRequest, RequestSeen, Settles, WantsDetails, WantsImport}
use Rattle.book_http.proofs.Words.{WantsReport, WantsWhatIf, wanted_by}
use Rattle.book_http.specs.Head.{HasNoHead}
use Rattle.book_http.specs.Laws.{IsWhole, RequestsAreMended}
use Rattle.book_http.proofs.LawLemmas.{asked_alike, details_none, import_counted, report_none}
use Rattle.book_http.proofs.LawLemmas.{what_if_none}
use Rattle.book_import.specs.Repeats as imports
use Rattle.report_rows.specs.declared.report_row.BodyKind.TheVariants as kinds

-- an import that nothing hindered leaves the books of a whole one
import_left : (naming : Naming) (stop : Stop) (records : List (List ℕ)) (before : Book)
    (told : Receipt) (events : List Event) (is : Bool)
    → Handles naming stop records told false before events is → imports.IsUnhindered told
    → after_all events before ≡ book_after_import naming before stop records
import_left naming stop records before told events is handled unhindered =
    ap (λ events. after_all events before)
    (sym (is_whole naming stop records before told events is handled unhindered).told.events)

-- a request, the same after one that was hindered, or that did nothing, and the same alone
module _ (once twice alone : Reply) (before : Book) (first second all : List Event)
    (between is end : Bool) where
  -- three that did nothing
  none_at_all : first ≡ [] → second ≡ [] → all ≡ []
      → unjournaled (after_all (second ++ first) before) ≡ unjournaled (after_all all before)
  none_at_all none nothing nil =
      ap (λ events. unjournaled (after_all (events ++ first) before)) nothing
      ∙ ap (λ events. unjournaled (after_all events before)) (none ∙ sym nil)

  -- whatever the first was
  none_once : {Made : Type 0} → (first ≡ []) ⊎ Made → (Made → first ≡ []) → first ≡ []
  none_once (inl none) so = none
  none_once (inr made) so = so made

  import_mended : (naming : Naming) (layout : Layout) (body : List ℕ)
      → (first ≡ []) ⊎ AnswersImport naming layout body once false before first between
      → AnswersImport naming layout body twice false (after_all first before) second is
      → IsWhole twice → AnswersImport naming layout body alone false before all end
      → IsUnhindered alone
      → unjournaled (after_all (second ++ first) before) ≡ unjournaled (after_all all before)
  import_mended naming layout body one two whole single unhindered =
      let dump = whole_dump layout body in
      let found = front layout body in
      let stop = stop_after None found in
      let b = import_counted two.said naming dump two.made.told false
      (after_all first before) second
      is two.made.made in
      let c = import_counted single.said naming dump single.made.told false before all end
      single.made.made in
      let counted = two.made.replied ∙ ap (office_reply kinds.Text) b.counted in
      let plain : Book = unjournaled before in
      let more : List Event = without_notes second in
      let next = next_alone naming stop found.records b.receipt false before first more is
      b.imported in
      let left : unjournaled (after_all all before)
      ≡ book_after_import naming plain stop found.records =
      journal_stands_apart before all
      ∙ import_left naming stop found.records plain c.receipt (without_notes all) end c.imported
      (unhindered.whole c.receipt (single.made.replied ∙ ap (office_reply kinds.Text) c.counted)) in
      elim one [
        | inl none ↦
            both_apart before first second
            ∙ ap (λ events. after_all (more ++ without_notes events) plain) none
            ∙ ap (λ events. after_all events plain) (append-nil more)
            ∙ import_left naming stop found.records plain b.receipt more is
            (subst (λ events. Handles naming stop found.records b.receipt false
            (after_all (without_notes events) plain) more is) none next)
            (whole.unhindered.whole b.receipt counted) ∙ sym left
        | inr made ↦
            let a = import_counted made.said naming dump made.made.told false before first between
            made.made.made in
            both_apart before first second
            ∙ stops_are_mended naming plain stop stop found.records a.receipt b.receipt
            (without_notes first) more between is a.imported next
            (whole.unhindered.whole b.receipt counted) (whole.apart b.receipt counted) ∙ sym left
      ]

  -- whatever is asked
  wanted_mended : (request : RequestSeen) (naming : Naming)
      → (first ≡ []) ⊎ AnswersRequest naming request once false before first between
      → AnswersRequest naming request twice false (after_all first before) second is
      → IsWhole twice → AnswersRequest naming request alone false before all end
      → IsUnhindered alone
      → unjournaled (after_all (second ++ first) before) ≡ unjournaled (after_all all before)
  wanted_mended (Settles due) naming one two whole single unhindered =
      none_at_all (none_once one (λ made. made.none.none)) two.none.none single.none.none
  wanted_mended (WantsReport report kind) naming one two whole single unhindered =
      none_at_all
      (none_once one (λ made. report_none naming report kind once false before first between made))
      (report_none naming report kind twice false (after_all first before) second is two)
      (report_none naming report kind alone false before all end single)
  wanted_mended (WantsDetails wanted) naming one two whole single unhindered =
      none_at_all
      (none_once one (λ made. details_none naming wanted once false before first between made))
      (details_none naming wanted twice false (after_all first before) second is two)
      (details_none naming wanted alone false before all end single)
  wanted_mended (WantsWhatIf what_if body) naming one two whole single unhindered =
      none_at_all
      (none_once one (λ made. what_if_none what_if body once false before first between made))
      (what_if_none what_if body twice false (after_all first before) second is two)
      (what_if_none what_if body alone false before all end single)
  wanted_mended (WantsImport layout body) naming one two whole single unhindered =
      import_mended naming layout body one two whole single unhindered

-- a request without a head does nothing
headless : (naming : Naming) (bytes : List ℕ) (reply : Reply) (before : Book) (events : List Event)
    (is : Bool) → HasNoHead bytes → Answers naming bytes reply false before events is → events ≡ []
headless naming bytes reply before events is never (no_head some none refused) = refused.none.none
headless naming bytes reply before events is never (a_head head behind stands made) =
    absurd (never head behind stands)

-- one with a head does nothing, or what that asks
with_head : (naming : Naming) (bytes : List ℕ) (head : RequestHead) (behind : List ℕ)
    (reply : Reply)
    (before : Book) (events : List Event) (is : Bool) → HasHead bytes head behind
    → Answers naming bytes reply false before events is
    → (events ≡ []) ⊎ AnswersAsked naming (asked head) behind reply false before events is
with_head naming bytes head behind reply before events is stands (no_head some never refused) =
    absurd (never head behind stands)
with_head naming bytes head behind reply before events is stands
    (a_head other rest there (no_memory refused)) =
    inl refused.none.none
with_head naming bytes head behind reply before events is stands
    (a_head other rest there (done made)) =
    inr
    (asked_alike naming bytes head other behind rest reply false before events is stands there made)

-- and where nothing hindered it, that
unhindered_head : (naming : Naming) (bytes : List ℕ) (head : RequestHead) (behind : List ℕ)
    (reply : Reply) (before : Book) (events : List Event) (is : Bool) → HasHead bytes head behind
    → Answers naming bytes reply false before events is → IsUnhindered reply
    → AnswersAsked naming (asked head) behind reply false before events is
unhindered_head naming bytes head behind reply before events is stands
    (no_head some never refused) unhindered =
    absurd (never head behind stands)
unhindered_head naming bytes head behind reply before events is stands
    (a_head other rest there (no_memory refused)) unhindered =
    absurd (unhindered.done refused.replied)
unhindered_head naming bytes head behind reply before events is stands
    (a_head other rest there (done made)) unhindered =
    asked_alike naming bytes head other behind rest reply false before events is stands there made

-- the law of it
pub requests_are_mended : RequestsAreMended
requests_are_mended naming before bytes once twice alone first second all between is end one
    (no_head some never refused) whole single unhindered =
    none_at_all once twice alone before first second all between is end
    (headless naming bytes once before first between never one) refused.none.none
    (headless naming bytes alone before all end never single)
requests_are_mended naming before bytes once twice alone first second all between is end one
    (a_head head behind stands (no_memory refused)) whole single unhindered =
    absurd (whole.unhindered.done refused.replied)
requests_are_mended naming before bytes once twice alone first second all between is end one
    (a_head head behind stands (done two)) whole single unhindered =
    wanted_mended once twice alone before first second all between is end
    (wanted_by (asked head) behind) naming
    (with_head naming bytes head behind once before first between stands one) two whole
    (unhindered_head naming bytes head behind alone before all end stands single unhindered)
    unhindered
