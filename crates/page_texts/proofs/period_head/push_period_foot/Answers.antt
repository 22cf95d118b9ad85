use Rattle.std.proofs.Common.{◌∙◌, ◌++◌, ap, append_assoc}
use Rattle.std.specs.List.{flat_map}
use Rattle.std.specs.Prelude.{codes}
use Rattle.page_texts.specs.PeriodHead.{period_foot, report_link, report_paths}
use Rattle.page_texts.proofs.period_head.push_period_foot.Goals as goal

-- the links come before the end
pub returns : goal.returns
unfolding period_foot
returns c =
    let out = c.args.out.now in
    let start = codes "<nav aria-label='Texts'>\n<a href='/'>office</a>\n" in
    let links = flat_map (report_link c.args.period) report_paths in
    let end = codes "</nav>\n</main>\n</body>\n</html>\n" in
    let so_far = c.push_links.ensures ∙ ap (λ text. text ++ links) c.push_str.ensures
    ∙ append_assoc out start links in
    c.push_str-2.ensures ∙ ap (λ text. text ++ end) so_far ∙ append_assoc out (start ++ links) end
