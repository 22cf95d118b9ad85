-- How many bytes the text of details has, by those that were counted.
use Rattle.std.proofs.Common.{◌≡◌, ◌∙◌, ℕ, ◌+◌, ℤ, List, ◌++◌, length, map, refl, sym, ap, subst}
use Rattle.std.proofs.Common.{length-append, Option, Result, Ok, Err, IfErr, IfOk, flat_map}
use Rattle.book_model.specs.Words.{details_outcome}
use Rattle.book_core.specs.Words.{Seen, IsCall}
use Rattle.book_reports.specs.declared.detail_lengths.Counted.{Counted}
use Rattle.book_reports.specs.declared.streamed_details.DetailReport.{DetailReport}
use Rattle.book_reports.proofs.Words.{Detail, LedgerFault, Memory, Folds, map_same, by_names}
use Rattle.book_reports.proofs.Words.{answers, answers_none, both_shown, refused_next, shown}
use Rattle.book_reports.proofs.Words.{then_stays, closed_through, shown_by, details_end}
use Rattle.book_reports.proofs.Words.{details_head, details_part, details_text, sums_of}
use Rattle.book_reports.specs.DetailLengths.{AreCounted}
use Rattle.book_reports.specs.KnownCentres.{known_through_outcome}
use Rattle.book_reports.specs.StreamedDetails.{detail_length_outcome}
use Rattle.book_reports.proofs.DetailLemmas.{details_told, whole_text}
use Rattle.book_reports.proofs.KnownCentreLemmas.{its_day}

-- with what stands above and below these are the bytes of the text
whole_size : (report : DetailReport) (through : Option ℤ) (counted : Counted) (details : List Detail)
    (above whole : ℕ) → AreCounted report counted details
    → above ≡ length (details_head report through)
    → whole ≡ above + counted.size + length (details_end report counted.sums)
    → whole ≡ length (details_text report through details)
whole_size report through counted details above whole are high is =
    is ∙ (λ i. high i + are.sized i + length (details_end report (are.summed i)))
    ∙ ap (λ size. size + length (details_end report (sums_of details)))
    (sym (length-append (details_head report through) (flat_map (details_part report) details)))
    ∙ sym (length-append (details_head report through ++ flat_map (details_part report) details)
    (details_end report (sums_of details)))
    ∙ ap length (whole_text report through details)

module _ (report : DetailReport) {old mid new : Seen} {through : Option ℤ}
    {read : Result Counted LedgerFault}
    (day : IsCall (λ day. day) old mid (Ok through)
    (known_through_outcome report.period report.centre))
    (it : Folds (λ detail. detail) mid new
    (λ book. (details_outcome mid.naming report.period report.centre book).answer) (AreCounted report)
    read)
  where
    its_call : IsCall (λ counted. map (λ detail. detail) it.items) mid new read
        (details_outcome old.naming report.period report.centre)
    its_call =
        by_names (λ naming book. details_outcome naming report.period report.centre book)
        day.work.naming it.read

    -- the details were refused
    pub size_refused : (fault : LedgerFault) → read ≡ Err fault
        → IsCall (λ size. size) old new (Err fault) (detail_length_outcome report old.naming)
    size_refused fault is =
        refused_next (Err fault) refl (λ book. refl) (λ book. refl)
        (λ book known said. ap (shown_by length)
        (details_told report old.naming book through known
        ∙ ap (shown_by (details_text report (closed_through book report.period))) said))
        (shown (λ book. refl) day)
        (subst (λ read. IsCall (λ counted. map (λ detail. detail) it.items) mid new read
        (details_outcome old.naming report.period report.centre)) is its_call)

    module _ (counted : Counted) (is : read ≡ Ok counted) where
      read_call : IsCall (λ counted. map (λ detail. detail) it.items) mid new (Ok counted)
          (details_outcome old.naming report.period report.centre)
      read_call =
          subst (λ read. IsCall (λ counted. map (λ detail. detail) it.items) mid new read
          (details_outcome old.naming report.period report.centre)) is its_call

      -- memory ran out
      pub size_stopped :
          IsCall (λ size. size) old new (Err Memory) (detail_length_outcome report old.naming)
      size_stopped =
          answers_none (λ book. refl) (then_stays (λ book. refl) (shown (λ book. refl) day) read_call)

      -- or so many bytes there are
      pub size_ended : (result : Result ℕ LedgerFault) (above : ℕ)
          → above ≡ length (details_head report through)
          → IfOk result (λ whole. whole
          ≡ above + counted.size + length (details_end report counted.sums))
          → IfErr result (λ fault. fault ≡ Memory)
          → IsCall (λ size. size) old new result (detail_length_outcome report old.naming)
      size_ended (Err fault) above high whole plain =
          subst (λ fault. IsCall (λ size. size) old new (Err fault)
          (detail_length_outcome report old.naming)) (sym plain) size_stopped
      size_ended (Ok size) above high whole plain =
          answers size (λ book. refl)
          (λ book both.
          ap (shown_by length) (details_told report old.naming book through both.first)
          ∙ ap (λ answer. shown_by length (shown_by (details_text report (closed_through book report.period)) answer))
          both.next
          ∙ (λ i. Ok (length (details_text report (its_day report.period report.centre book through both.first i)
          (sym (map_same it.items) i))))
          ∙ ap Ok (sym (whole_size report through counted it.items above size
          (subst (λ read. IfOk read (λ counted. AreCounted report counted it.items)) is it.has) high
          whole)))
          (both_shown (λ book. refl) (shown (λ book. refl) day) read_call)
