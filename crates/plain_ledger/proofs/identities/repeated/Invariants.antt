use Rattle.std.proofs.Common.{◌≡◌, ℕ, List, ◌+◌, ◌-◌, ◌≤◌, length, drop, take, nat_le}
use Rattle.std.specs.BTreeSet.{contains}
use Rattle.std.specs.Slice.Iter.{windows_size, windows_rest}
use Rattle.book_model.specs.Words.{by_bytes}
use Rattle.plain_ledger.proofs.RepeatLemmas.{times}
use Rattle.plain_ledger.proofs.identities.repeated.Given as goal

-- the set holds what is there twice among all up to the first that is left
abbrev pub invariant-loop-pair : goal.invariant-loop-pair
invariant-loop-pair l =
    let left = windows_rest l.pair-iterator in
    let i = length l.sorted - length left in
    record {
      size : windows_size l.pair-iterator ≡ 2;
      short : length left ≤ length l.sorted;
      left : left ≡ drop i l.sorted;
      repeated : (identity : List ℕ)
          → contains by_bytes l.repeated identity
          ≡ nat_le 2 (times identity (take (i + 1) l.sorted));
    }
