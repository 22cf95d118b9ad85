use Rattle.std.proofs.Common.{◌≡◌, ◌∙◌, arith, string_bytes}
use Rattle.std.proofs.lemmas.Grind.{common_steps}
use Rattle.smf_text.specs.CodePage.{show_text}
use Rattle.smf_text.proofs.InjectiveLemmas.{show_text-injective, bytes_everywhere}
use Rattle.smf_text.proofs.shown.show.Goals as goal

pub returns-clause-unlike : goal.returns-clause-unlike
unfolding show_text
returns-clause-unlike c other long bytes same =
    let shown : string_bytes c.loop-byte.text ≡ show_text c.args.bytes.now =
    grind (arith, common_steps) in
    show_text-injective other c.args.bytes.now long
    (bytes_everywhere other bytes) (λ i. (c.type_inv.bytes i).fits) (same ∙ shown)
