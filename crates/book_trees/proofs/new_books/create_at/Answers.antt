use Rattle.std.proofs.Common.{subst, sym}
use Rattle.std.proofs.Math.Logic.{∥∥₁_map}
use Rattle.sqlite_wal.specs.Recovery.{Image}
use Rattle.book_trees.specs.LedgerFiles.{HoldsNothing}
use Rattle.book_trees.specs.Refusals.{IsToldWithout}
use Rattle.book_trees.proofs.Begun.{begun_found}
use Rattle.book_trees.proofs.FreshFiles.{as_found, fresh_image, fresh_images}
use Rattle.book_trees.proofs.new_books.create_at.Goals as goal

pub returns-in-Ok-create_files-clause-started : goal.returns-in-Ok-create_files-clause-started
returns-in-Ok-create_files-clause-started g c clean =
    let fresh = c.in-Ok.ensures.fresh in
    let same = fresh_image g.S.Start.log g.S.Start.db fresh.0 fresh.1 in
    ∥∥₁_map (c.in-Ok-create_files.ensures.started clean) λ nothing. subst HoldsNothing same nothing

pub returns-in-Ok-create_files-clause-begun : goal.returns-in-Ok-create_files-clause-begun
returns-in-Ok-create_files-clause-begun g c nothing left may =
    let fresh = c.in-Ok.ensures.fresh in
    let same = fresh_image g.S.Start.log g.S.Start.db fresh.0 fresh.1 in
    begun_found _ left _ nothing (λ was. fresh_images g.S.Start.is_mixing g.S.Start.log g.S.Start.db
    fresh.0 fresh.1 left was.1.0 was.1.1)
    (c.in-Ok-create_files.ensures.begun (subst HoldsNothing (sym same) nothing) left may)

pub returns-in-Err-create_files-clause-begun_refused : goal.returns-in-Err-create_files-clause-begun_refused
returns-in-Err-create_files-clause-begun_refused g c nothing left may =
    let fresh = c.in-Ok.ensures.fresh in
    let same = fresh_image g.S.Start.log g.S.Start.db fresh.0 fresh.1 in
    begun_found _ left _ nothing (λ was. fresh_images g.S.Start.is_mixing g.S.Start.log g.S.Start.db
    fresh.0 fresh.1 left was.1.0 was.1.1)
    (c.in-Err-create_files.ensures.begun_refused (subst HoldsNothing (sym same) nothing) left may)

pub returns-in-Err-create_files-clause-there : goal.returns-in-Err-create_files-clause-there
returns-in-Err-create_files-clause-there g c clean =
    let fresh = c.in-Ok.ensures.fresh in
    subst (λ (i : Image). IsToldWithout (HoldsNothing i) c.in-Err-create_files.fault)
    (fresh_image g.S.Start.log g.S.Start.db fresh.0 fresh.1)
    (c.in-Err-create_files.ensures.there clean)

pub returns-in-Err-create_files-clause-kept : goal.returns-in-Err-create_files-clause-kept
returns-in-Err-create_files-clause-kept g c something left may =
    let fresh = c.in-Ok.ensures.fresh in
    let same = fresh_image g.S.Start.log g.S.Start.db fresh.0 fresh.1 in
    let kept = c.in-Err-create_files.ensures.unharmed may.0
    (λ nothing. something (subst HoldsNothing same nothing)) in
    as_found left (λ was. fresh_images g.S.Start.is_mixing g.S.Start.log g.S.Start.db fresh.0
    fresh.1 left was.1.0 was.1.1) same (kept.crash left may)
