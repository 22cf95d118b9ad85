use Rattle.std.proofs.Common.{◌∙◌, inr, sym}
use Rattle.command_line.specs.declared.request.BookRequest.TheVariants as book
use Rattle.chargectl.specs.Commands.{IsTariffFault}
use Rattle.chargectl.proofs.CommandLemmas.{not_asked, word_there}
use Rattle.chargectl.proofs.report_commands.what_if.Goals as goal

pub returns-in_err-tariff : goal.returns-in_err-tariff
returns-in_err-tariff g c =
    let shelf = g.S.Repository.shelf c.args.repository.now in
    let files = g.F.Inputs.held c.args.inputs.now in
    not_asked files (book.WhatIf c.args.form c.args.period c.args.file) c.args.book.now shelf
    c.from_residual-in_err-tariff.result c.in_err-tariff.field-0.0
    c.from_residual-in_err-tariff.ensures.0 c.from_residual-in_err-tariff.ensures.1
    (word_there _ c.in-Some.report
    (IsTariffFault (files.holds c.args.file.now) (shelf.refuses c.args.book.now)) c.in_err-tariff.field-0.0
    (sym c.what_if_of.ensures ∙ c.in-Some.is) (inr c.in_err-tariff.ensures))
