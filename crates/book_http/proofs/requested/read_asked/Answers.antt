use Rattle.std.proofs.Common.{ℕ, ◌++◌, ap, inl, Err, Vec, Global}
use Rattle.book_http.specs.Requested.{WantsImport, WantsWhatIf}
use Rattle.book_http.proofs.BodyLemmas.{fault_comes}
use Rattle.book_http.proofs.ReadLemmas.{gave_as}
use Rattle.book_http.proofs.RequestedLemmas.{body_refused, whole_wanted}
use Rattle.book_http.proofs.requested.read_asked.Goals as goal

pub returns-in-Ok-clause-asks : goal.returns-in-Ok-clause-asks
returns-in-Ok-clause-asks g c =
    rw c.in-WhatIf.is
    (gave_as c.in-Ok.ensures.reads
    (λ came whole more none. inl (whole_wanted (WantsWhatIf c.in-WhatIf.what_if) c.in-WhatIf.size
    (c.args.front.now ++ came) c.in-Ok.body.items more whole.enough whole.bytes)))

pub returns-in-Err-clause-asks : goal.returns-in-Err-clause-asks
returns-in-Err-clause-asks g c =
    let size = c.in-WhatIf.size in
    rw c.in-WhatIf.is
    (gave_as c.in-Err.ensures.reads
    (λ came comes.
    let bytes = c.args.front.now ++ came in
    body_refused _ (WantsWhatIf c.in-WhatIf.what_if) size bytes c.in-Err.fault c.refuse_body.result
    (λ short. c.in-Err.ensures.ended (ap Err short))
    (fault_comes {A = Vec ℕ Global} (λ body. body.items) size bytes c.in-Err.fault comes)
    c.refuse_body.ensures.refused))

pub returns-in-Ok-read_body-clause-asks : goal.returns-in-Ok-read_body-clause-asks
returns-in-Ok-read_body-clause-asks g c =
    rw c.in-Import.is
    (gave_as c.in-Ok-read_body.ensures.reads
    (λ came whole more none. inl (whole_wanted (WantsImport c.in-Import.layout) c.in-Import.size
    (c.args.front.now ++ came) c.in-Ok-read_body.body.items more whole.enough whole.bytes)))

pub returns-in-Err-read_body-clause-asks : goal.returns-in-Err-read_body-clause-asks
returns-in-Err-read_body-clause-asks g c =
    let size = c.in-Import.size in
    let told = c.refuse_body-in-Err-read_body in
    rw c.in-Import.is
    (gave_as c.in-Err-read_body.ensures.reads
    (λ came comes.
    let bytes = c.args.front.now ++ came in
    body_refused _ (WantsImport c.in-Import.layout) size bytes c.in-Err-read_body.fault told.result
    (λ short. c.in-Err-read_body.ensures.ended (ap Err short))
    (fault_comes {A = Vec ℕ Global} (λ body. body.items) size bytes c.in-Err-read_body.fault comes)
    told.ensures.refused))
