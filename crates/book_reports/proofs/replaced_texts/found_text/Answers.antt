use Rattle.std.proofs.Common.{◌∙◌, Global, Option, String, ap, map, option_map}
use Rattle.std.proofs.Common.{string_bytes, w32, ℤ}
use Rattle.book_model.proofs.Std.{to_z-of_z}
use Rattle.book_model.specs.Words.{ruling_shown}
use Rattle.book_reports.specs.ReplacedTexts.{first_replaced}
use Rattle.book_reports.proofs.Words.{folded}
use Rattle.book_reports.proofs.replaced_texts.found_text.Goals as goal

pub returns : goal.returns
returns g c =
    folded (λ (found : Option (String Global)). option_map (λ text. string_bytes text) found)
    (first_replaced c.args.day c.args.digest) c.fold.ensures
    (λ found rulings is.
    is ∙ ap (λ (day : ℤ). first_replaced day c.args.digest (map ruling_shown rulings))
    (to_z-of_z w32 c.args.day c.ranges.day))
