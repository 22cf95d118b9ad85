-- Files that were just opened are synced.
use Rattle.std.proofs.Common.{◌≡◌, Bool, cond, List, [], ◌∷◌, ℕ, inl, inr, subst, sym}
use Rattle.sqlite_disk.specs.Disk.{Only}
use Rattle.sqlite_disk.specs.Events.{Event, replay, settled}
use Rattle.sqlite_disk.specs.History.{MayLeave}

-- a crash leaves what a read returns, of a file with such calls
abbrev IsSettled : Bool → List ℕ → List ℕ → Bool → List Event → Type 0
IsSettled mixes log db is_log history =
    let model = replay (cond is_log log db) history in
    Only model.seen (MayLeave mixes model.seen model.synced model.steps)

plain : (mixes : Bool) (log db : List ℕ) (which : Bool) (key : ℕ)
    → IsSettled mixes log db which (settled key ∷ [])
plain mixes log db which key c may = elim may [ inl seen ↦ seen | inr synced ↦ synced ]

pub fresh_only : (mixes : Bool) (log db : List ℕ) (which is_log : Bool) (history : List Event)
    (key : ℕ) → is_log ≡ which → history ≡ settled key ∷ []
    → IsSettled mixes log db is_log history
fresh_only mixes log db which is_log history key same fresh =
    subst (λ (is_log : Bool). IsSettled mixes log db is_log history) (sym same)
    (subst (λ (history : List Event). IsSettled mixes log db which history) (sym fresh)
    (plain mixes log db which key))
