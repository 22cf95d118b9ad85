use Rattle.std.proofs.Common.{◌≡◌, ◌∙◌, ◌++◌, [], ◌∷◌, sym, ap, map, filter_map, append-nil}
use Rattle.std.specs.Map.Iter.{deref_pair}
use Rattle.book_model.proofs.Std.{cons_option, map-append, filter_map-append}
use Rattle.plain_ledger.specs.Plain.{Entry}
use Rattle.plain_ledger.specs.Treatments.{line_at, treatment_in}
use Rattle.plain_ledger.proofs.period.Period.lines.Goals.{After-line}
use Rattle.plain_ledger.proofs.period.Period.lines.Goals as goal

-- the line of one more record comes after those of the others
more : (c : After-line)
    → filter_map (λ entry. line_at (treatment_in c.args.self.now c.args.posted.now entry) entry)
    (map deref_pair (c.loop-name.yielded ++ (c.in-Some.name, c.in-Some.kept) ∷ []))
    ≡ c.loop-name.lines.items ++ cons_option c.line.result []
more c =
    let done = map deref_pair c.loop-name.yielded in
    let entry : Entry = (c.in-Some.name.now, c.in-Some.kept.now) in
    let its_line : Entry → _ = λ entry.
    line_at (treatment_in c.args.self.now c.args.posted.now entry) entry in
    ap (filter_map its_line)
    (map-append deref_pair c.loop-name.yielded ((c.in-Some.name, c.in-Some.kept) ∷ []))
    ∙ filter_map-append its_line done (entry ∷ [])
    ∙ (λ i. sym c.loop-name.invariant i
    ++ cons_option
    ((ap (λ treatment. line_at treatment entry) (sym c.treatment.ensures) ∙ sym c.line.ensures) i) [])

pub loop-name-preserved-in-Continue-1 : goal.loop-name-preserved-in-Continue-1
loop-name-preserved-in-Continue-1 c =
    c.in_ok-push.ensures.items
    ∙ ap (λ (line : _). c.loop-name.lines.items ++ cons_option line []) (sym c.in-Some-line.is)
    ∙ sym (more (goal.at.loop-name-preserved-in-Continue-1 c).After-line)

pub loop-name-preserved : goal.loop-name-preserved
loop-name-preserved c =
    sym (more (goal.at.loop-name-preserved c).After-line
    ∙ ap (λ line. c.loop-name.lines.items ++ cons_option line []) c.in_default.is
    ∙ append-nil c.loop-name.lines.items)
