-- The details of a period come in turn with their systems, as they do without them.
use Rattle.std.specs.Prelude.{◌≡◌, ℕ, List, [], ◌∷◌, map, refl, take, Option, None, Result}
use Rattle.std.specs.Prelude.{Ok, Err, slice_get, option_map}
use Rattle.std.proofs.Common.{◌∙◌, sym, ap}
use Rattle.std.proofs.lemmas.List.{take-map}
use Rattle.std.proofs.lemmas.Option.{slice_get-map}
use Rattle.book_model.specs.declared.detail.Detail.{Detail}
use Rattle.book_model.specs.declared.fault.LedgerFault.{LedgerFault}
use Rattle.book_model.specs.Words.{Book, Naming, details_outcome}
use Rattle.coverage_texts.specs.declared.coverage_rows.SystemDetail.{SystemDetail}
use Rattle.book_lists.specs.Cursors.{IsNext, last_of}
use Rattle.book_lists.specs.DetailsInTurn.{details_in_turn}
use Rattle.book_lists.specs.Shown.{shown_by}
use Rattle.book_reports.specs.SystemDetails.{detail_in, next_on_system, on_system, system_details}

module _ (naming : Naming) (book : Book) where
  -- a detail with its system
  abbrev with_system : Detail → SystemDetail
  with_system = on_system naming book

  -- the last of some details is that of the last one with its system
  last_detail : (details : List Detail)
      → detail_in (last_of (map with_system details)) ≡ last_of details
  last_detail [] = refl
  last_detail (detail ∷ []) = refl
  last_detail (detail ∷ next ∷ more) = last_detail (next ∷ more)

  -- so is the last that was read
  last_read : (count : ℕ) (details : List Detail)
      → detail_in (last_of (take count (map with_system details)))
      ≡ last_of (take count details)
  last_read count details =
      ap (λ read. detail_in (last_of read)) (take-map with_system count details)
      ∙ last_detail (take count details)

  -- the next one is found among the details as among those with their systems
  next_among : (count : ℕ) (answer : Result (List Detail) LedgerFault)
      → shown_by (option_map with_system) (shown_by (λ details. slice_get details count) answer)
      ≡ shown_by (λ details. slice_get details count) (shown_by (map with_system) answer)
  next_among count (Ok details) = ap Ok (sym (slice_get-map with_system details count))
  next_among count (Err fault) = refl

  -- so they come in turn
  pub systems_in_turn : (period count : ℕ) (last : Option SystemDetail)
      → IsNext (system_details naming period book) count last
      (next_on_system naming period last book)
  systems_in_turn period count last known =
      ap (shown_by (option_map with_system))
      (details_in_turn period None naming book count (detail_in last)
      (λ details answered.
      ap detail_in
      (known (map with_system details) (ap (shown_by (map with_system)) answered))
      ∙ last_read count details))
      ∙ next_among count (details_outcome naming period None book).answer
