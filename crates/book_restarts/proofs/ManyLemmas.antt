-- Sessions of several programs on the same files.
use Rattle.std.proofs.Common.{◌≡◌, ◌∙◌, ℕ, zero, suc, Bool, true, false, cond, List, [], ◌∷◌, ◌++◌}
use Rattle.std.proofs.Common.{ap, ap₂, append_assoc, map, refl, subst, sym}
use Rattle.std.proofs.lemmas.Bool.{eqb-true}
use Rattle.std.specs.Prelude.{◌==◌, filter}
use Rattle.std.proofs.Math.Logic.{∥∥₁_elim, ∥∥₁_map, ∥∥₁_prop}
use Rattle.sqlite_wal.specs.Recovery.{Image}
use Rattle.book_model.specs.Words.{new_book, Naming}
use Rattle.book_core.specs.Transition.{Transition}
use Rattle.book_core.proofs.InTurnLemmas.{below_next, last_below}
use Rattle.book_core.proofs.TransitionLemmas.{after_all-append}
use Rattle.book_restarts.specs.FileBooks.{HoldsHistory}
use Rattle.book_restarts.specs.Laws.{SessionsOfManyAreOneHistory, Share, down_from, events_of, had_before}

module _ (order : ℕ → ℕ) where
  -- a session that is a program's next one is added to its own, and to those of no other
  next_own : (turn program : ℕ) (share : Share)
      → share.session ≡ had_before order turn (order turn) → (is : Bool)
      → (order turn == program) ≡ is → (rest : List Share)
      → map (λ (share : Share). share.session) rest
      ≡ down_from (had_before order turn program)
      → map (λ (share : Share). share.session) (cond is (share ∷ rest) rest)
      ≡ down_from (cond is (suc (had_before order turn program))
      (had_before order turn program))
  next_own turn program share next true is rest own =
      ap₂ (λ session more. session ∷ more)
      (next ∙ ap (had_before order turn) (eqb-true (order turn) program is)) own
  next_own turn program share next false is rest own = own

module _ (work : ℕ → ℕ → Naming → Transition) (order : ℕ → ℕ) (files : ℕ → Image) where
  pub are_one_history : SessionsOfManyAreOneHistory work order files
  are_one_history naming start zero held each =
      ∣ (record { shares = []; made = tt; locked = refl; own = λ program. refl; left = held }) ∣₁
  are_one_history naming start (suc turns) held each =
      ∥∥₁_elim (are_one_history naming start turns held
      (λ turn below. each turn (below_next turn turns below))) ∥∥₁_prop λ before.
      ∥∥₁_map ((each turns (last_below turns)).history (events_of before.shares ++ start) before.left) λ one.
      let number = had_before order turns (order turns) in
      let share : Share = record { program = order turns; session = number; events = one.events } in
      record {
        shares = share ∷ before.shares;
        made = (
          one.is,
          subst (λ book. work (order turns) number naming false book one.events one.is)
              (after_all-append (events_of before.shares) start new_book) one.made,
          before.made,
        );
        locked = ap (λ more. order turns ∷ more) before.locked;
        own = λ program. next_own order turns program share refl (order turns == program) refl
            (filter (λ (share : Share). share.program == program) before.shares)
            (before.own program);
        left = subst (λ history. HoldsHistory naming history (files (suc turns)))
            (sym (append_assoc one.events (events_of before.shares) start)) one.left;
      }
