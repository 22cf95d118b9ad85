use Rattle.std.proofs.Common.{refl, subst, sym}
use Rattle.std.specs.Prelude.{None, List, ℕ, Vec}
use Rattle.std.specs.Global.{Global}
use Rattle.streams.specs.InputOutput.{reader_seen}
use Rattle.book_model.specs.Words.{MayBeAsked, RulingAsked, note_given, rule_outcome}
use Rattle.book_core.specs.Calls.{Calls}
use Rattle.book_core.specs.Transition.{IsTransition}
use Rattle.book_import.specs.ImportEntries.{ImportsOf}
use Rattle.book_reports.specs.WhatIfTexts.{what_if_report}
use Rattle.office.specs.declared.request.Asked.{Asked}
use Rattle.office.specs.declared.request.Asked.TheVariants.{Import, ImportBytes, Report, Rule}
use Rattle.office.specs.declared.request.Asked.TheVariants.{WhatIf}
use Rattle.office.specs.Requests.{Ruling, Text, IsAskable, no_dump, whole_dump}
use Rattle.office.proofs.AskLemmas.{work_told, unread, as_asked}
use Rattle.office.proofs.asking.ask.Goals as goal

pub rule-requires : goal.rule-requires
rule-requires g c =
    let may = subst (λ (asked : Asked).
    IsAskable asked (reader_seen g.R.Read.remaining c.args.source.now)) c.in-Rule.is c.requires in
    subst MayBeAsked (sym c.lent.ensures) may

pub returns-in-Rule : goal.returns-in-Rule
returns-in-Rule g c =
    let old = g.L.Ledger.seen c.args.ledger.now in
    let new = g.L.Ledger.seen c.rule.new.self in
    as_asked (Rule c.in-Rule.ruling c.in-Rule.note) c.in-Rule.is
    (unread no_dump (record { is = refl; same = refl })
    (work_told Ruling c.ruled.ensures
    (subst (λ (ruling : RulingAsked).
    IsTransition old new
    (Calls (λ ruled. ruled) (rule_outcome old.naming (note_given c.in-Rule.note) ruling)
    c.rule.result))
    c.lent.ensures c.rule.ensures.work)))

pub returns-in-Import : goal.returns-in-Import
returns-in-Import g c =
    let received = c.import_noted.ensures in
    as_asked (Import c.in-Import.layout c.in-Import.note) c.in-Import.is (record {
      dump = received.dump;
      given = received.given;
      work = received.work;
    })

pub returns-in-ImportBytes : goal.returns-in-ImportBytes
returns-in-ImportBytes g c =
    let old = g.L.Ledger.seen c.args.ledger.now in
    let new = g.L.Ledger.seen c.bytes_noted.new.ledger in
    as_asked (ImportBytes c.in-ImportBytes.layout c.in-ImportBytes.bytes c.in-ImportBytes.note)
    c.in-ImportBytes.is
    (unread (whole_dump c.in-ImportBytes.layout c.in-ImportBytes.bytes.items)
    (record { is = refl; same = refl })
    (subst (λ (bytes : List ℕ). IsTransition old new
    (ImportsOf (note_given c.in-ImportBytes.note) old.naming c.in-ImportBytes.layout None bytes
    c.bytes_noted.result))
    c.as_slice.ensures.value c.bytes_noted.ensures))

pub returns-in-Report : goal.returns-in-Report
returns-in-Report g c =
    as_asked (Report c.in-Report.report) c.in-Report.is
    (unread no_dump (record { is = refl; same = refl })
    (work_told Text c.text.ensures c.report_text.ensures.work))

pub returns-in-WhatIf : goal.returns-in-WhatIf
returns-in-WhatIf g c =
    let old = g.L.Ledger.seen c.args.ledger.now in
    let new = g.L.Ledger.seen c.what_if_text.new.ledger in
    as_asked (WhatIf c.in-WhatIf.report c.in-WhatIf.tariff) c.in-WhatIf.is
    (unread no_dump (record { is = refl; same = refl })
    (work_told Text c.text-in-WhatIf.ensures
    (subst (λ (tariff : List ℕ). IsTransition old new
    (Calls (λ (text : Vec ℕ Global). text.items) (what_if_report c.in-WhatIf.report tariff)
    c.what_if_text.result))
    c.as_str.ensures.value c.what_if_text.ensures.work)))
