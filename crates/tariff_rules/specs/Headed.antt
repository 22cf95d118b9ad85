-- The tariff of a file, if it has no fault: what a bill takes of it beside its letterhead.
use Rattle.std.specs.Prelude.{ℕ, List, Option}
use Rattle.std.specs.Option.{option_and_then}
use Rattle.std.specs.Result.{result_ok}
use Rattle.toml.specs.Data.{Members}
use Rattle.tariff_rules.specs.TariffFile.{document_in, terms_of}
use Rattle.tariff_rules.specs.Terms.{Terms}

-- the terms of a document
abbrev pub tariff_of : Members → Option Terms
tariff_of document = result_ok (terms_of document)

-- those of a text, where it is a document that is not too long
abbrev pub tariff_in : List ℕ → Option Terms
tariff_in text = option_and_then tariff_of (document_in text)
