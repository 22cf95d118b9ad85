-- Files that hold no database yet do not recover to a sound file.
use Rattle.std.proofs.Common.{◌≡◌, ◌∙◌, ℕ, List, [], Option, Some, slice_index, take, unwrap_or}
use Rattle.std.proofs.Common.{ap, arith, get_or-take, lit<, sym}
use Rattle.sqlite_pages.specs.PageMap.{PageMap}
use Rattle.sqlite_pool.proofs.ProbeLemmas.{first_byte}
use Rattle.sqlite_pool.specs.File.{header_in, IsSoundFile}
use Rattle.sqlite_pool.specs.Header.{first_page}
use Rattle.sqlite_pool.specs.Opening.{IsBlankFile}
use Rattle.sqlite_pool.specs.Stored.{sealed, stored_size, Recovers}
use Rattle.sqlite_pool.specs.StoredLaws.{trimmed_some}
use Rattle.sqlite_wal.proofs.AppendLemmas.{some_value}
use Rattle.sqlite_wal.proofs.CreateLemmas.{begun_is_not_blank}
use Rattle.sqlite_wal.specs.Recovery.{Image}
use Rattle.book_trees.specs.LedgerFiles.{page_size}

-- a number that is 83 is not 0
not_zero : (byte : ℕ) → byte ≡ 83 → byte ≡ 0 → ⊥
not_zero byte is none = omega (arith, is, none)

-- A sound file begins with a whole page, whose first byte is that of its header; a part of a first
-- page does not.
pub blank_unsound : (image : Image) (pages : PageMap) → Recovers page_size image pages
    → IsSoundFile page_size pages → IsBlankFile page_size image → ⊥
blank_unsound image pages found sound =
    let (page, is) = some_value (found.stored 1) found.whole.first in
    let used : pages 1 ≡ Some (take page_size page) =
    ap (λ (p : PageMap). p 1) (sym found.shows) ∙ trimmed_some page_size _ 1 page is in
    let head : header_in pages ≡ take 100 (take page_size page) =
    ap (λ (o : Option (List ℕ)). take 100 (unwrap_or o [])) used in
    let magic : slice_index page 0 ≡ 83 =
    sym (ap (λ (b : List ℕ). slice_index b 0) head
    ∙ get_or-take 100 (take page_size page) 0 0 (lit< tt)
    ∙ get_or-take page_size page 0 0 (lit< tt))
    ∙ sym (get_or-take 16 (header_in pages) 0 0 (lit< tt))
    ∙ ap (λ (b : List ℕ). slice_index b 0) sound.header.0.magic in
    let first : slice_index (sealed (first_page page_size)) 0 ≡ 83 =
    first_byte page_size (lit< tt) in
    begun_is_not_blank (sealed (first_page page_size)) page (stored_size page_size) image
    found.stored found.found is (found.whole.sized 1 page is) (lit< tt) (magic ∙ sym first)
    (not_zero (slice_index (sealed (first_page page_size)) 0) first)
