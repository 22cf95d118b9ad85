use Rattle.std.proofs.Common.{◌≡◌, ◌∙◌, ap, map, sym, option_map}
use Rattle.table_model.specs.Words.{Tables}
use Rattle.tree_tables.specs.Stored.{book_entry, close_entry, tariff_of}
use Rattle.table_ledger.proofs.LoadLemmas.{recalled_by}
use Rattle.table_ledger.proofs.TryLemmas.{looks_known, saw_found, saw_then, saw_none}
use Rattle.table_ledger.proofs.LooksRefused.{look_refused}
use Rattle.table_ledger.proofs.load.look_for_summary.Goals as goal

pub returns-clause-looks : goal.returns-clause-looks
returns-clause-looks g c =
    let texts = c.deref.result.now in
    let days = c.deref-2.result.now in
    let all_texts : texts ≡ c.in_ok-tariffs.tariffs.items = let e = c.deref.ensures.value in cc in
    let all_days : days ≡ c.in_ok-closes.closes.items = let e = c.deref-2.ensures.value in cc in
    looks_known (saw_then (saw_then (saw_then (saw_found c.in_ok-row.ensures.looks)
    (saw_found c.in_ok-tariffs.ensures.looks))
    (saw_found c.in_ok-closes.ensures.looks))
    (saw_found c.in_ok-counts.ensures.looks))
    (λ (tables : Tables) known.
    let found = ap (option_map book_entry) (sym c.in-Some.is) ∙ known.0.0.0 in
    recalled_by c.summary_of.result tables c.in-Some.row texts days
    c.in_ok-counts.counts.choices c.in_ok-counts.counts.replaced c.in_ok-counts.counts.credits
    c.summary_of.ensures.shows c.summary_of.ensures.kinds (record {
      book = (let e = found in cc);
      tariffs = ap (map tariff_of) all_texts ∙ known.0.0.1;
      closes = ap (map close_entry) all_days ∙ known.0.1;
      made = known.1.choices;
      replaced = known.1.replaced;
      credits = known.1.credits;
    }))

-- ---- a look that fails leaves all as it was

pub returns-in_err-row-clause-looks : goal.returns-in_err-row-clause-looks
returns-in_err-row-clause-looks g c =
    look_refused _ c.from_residual.ensures.0 saw_none c.in_err-row.ensures.looks

pub returns-in_err-tariffs-clause-looks : goal.returns-in_err-tariffs-clause-looks
returns-in_err-tariffs-clause-looks g c =
    look_refused _ c.from_residual-in_err-tariffs.ensures.0
    (saw_found c.in_ok-row.ensures.looks) c.in_err-tariffs.ensures.looks

pub returns-in_err-closes-clause-looks : goal.returns-in_err-closes-clause-looks
returns-in_err-closes-clause-looks g c =
    look_refused _ c.from_residual-in_err-closes.ensures.0
    (saw_then (saw_found c.in_ok-row.ensures.looks) (saw_found c.in_ok-tariffs.ensures.looks))
    c.in_err-closes.ensures.looks

pub returns-in_err-counts-clause-looks : goal.returns-in_err-counts-clause-looks
returns-in_err-counts-clause-looks g c =
    look_refused _ c.from_residual-in_err-counts.ensures.0
    (saw_then (saw_then (saw_found c.in_ok-row.ensures.looks)
    (saw_found c.in_ok-tariffs.ensures.looks))
    (saw_found c.in_ok-closes.ensures.looks))
    c.in_err-counts.ensures.looks
