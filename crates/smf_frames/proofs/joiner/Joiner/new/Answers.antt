use Rattle.std.proofs.Common.{◌++◌, List, ℕ, [], ◌∷◌, false, None, sym, ap, ◌∙◌, subst}
use Rattle.smf_frames.specs.Joining.{HasTaken}
use Rattle.smf_frames.specs.JoinerFields.{joining_in}
use Rattle.smf_frames.proofs.JoinerStates.{front_of_nothing, stands_start}
use Rattle.smf_frames.proofs.joiner.Joiner.new.Goals as goal

pub returns-clause-stands : goal.returns-clause-stands
returns-clause-stands c =
    let zeros : List ℕ = 0 ∷ 0 ∷ 0 ∷ 0 ∷ [] in
    let items = c.in_ok-extend_from_slice.ensures.items
    ∙ ap (λ xs. xs ++ zeros) c.in_ok-joined.ensures.items in
    subst (λ xs. HasTaken [] (joining_in (record {
      layout = c.args.layout;
      left = None;
      is_begun = false;
      joined = xs;
      data_end = 4;
      descriptor = zeros;
      received = 0;
      stands = false;
      room = 0;
    }))) (sym items) (stands_start c.args.layout)

pub returns-clause-found : goal.returns-clause-found
returns-clause-found c = front_of_nothing c.args.layout
