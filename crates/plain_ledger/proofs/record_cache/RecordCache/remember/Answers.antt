use Rattle.std.proofs.Common.{◌≡◌, true}
use Rattle.std.specs.Rc.{rc_slice_items}
use Rattle.plain_ledger.proofs.CacheLemmas.{put_in}
use Rattle.plain_ledger.proofs.record_cache.RecordCache.remember.Goals as goal

pub returns : goal.returns
returns c test all passes =
    let put = c.insert-cache in
    put_in (λ bytes. test (rc_slice_items bytes) ≡ true) _ c.args.identity c.args.bytes
    c.args.self.now.by_identity.entries put.new.self.entries put.result put.ensures.entries
    put.ensures.err all passes
