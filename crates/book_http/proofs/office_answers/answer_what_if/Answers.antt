use Rattle.std.proofs.Common.{◌≡◌, ◌∙◌, ap, false, not, string_bytes, subst, sym, true, true≢false}
use Rattle.std.proofs.lemmas.Str.{IsUtf8-from_is_utf8, IsUtf8-string_bytes, is_utf8-from_IsUtf8}
use Rattle.book_model.proofs.Std.{false_from_ne_true}
use Rattle.book_core.specs.Words.{IsTransition}
use Rattle.book_http.specs.declared.status.Status.TheVariants.{BadRequest}
use Rattle.book_http.proofs.Words.{is_utf8, work_as, response_by, AnswersOffice, AnswersWhatIf}
use Rattle.book_http.proofs.Words.{Prices, UnlessBad, office_reply, form_kind, refusal, reply_of}
use Rattle.book_http.proofs.ServeLemmas.{refuses}
use Rattle.book_http.proofs.office_answers.answer_what_if.Goals as goal

pub returns-in_default : goal.returns-in_default
returns-in_default g c =
    let seen = g.L.Ledger.seen c.args.ledger.now in
    let body = c.args.body.items in
    let what_if = c.args.report in
    let reply = refusal BadRequest in
    let other : is_utf8 body ≡ false =
    false_from_ne_true (is_utf8 body)
    (λ is. true≢false (sym (c.in_default.ensures.succeeds (IsUtf8-from_is_utf8 body is)))) in
    subst (λ utf8. IsTransition seen seen
    (UnlessBad (not utf8) (AnswersOffice (form_kind what_if.form) (Prices what_if body) reply) reply))
    (sym other) (refuses seen reply)

pub returns : goal.returns
returns g c =
    let old = g.L.Ledger.seen c.args.ledger.now in
    let new = g.L.Ledger.seen c.ask_without_reader.new.ledger in
    let what_if = c.args.report in
    let told = response_by c.ask_without_reader.result in
    let reply = reply_of c.answer_of.result in
    let tariff = c.in-Ok.tariff in
    let text = string_bytes tariff in
    let kind = form_kind what_if.form in
    let is_text : is_utf8 text ≡ true = is_utf8-from_IsUtf8 text (IsUtf8-string_bytes tariff) in
    let priced =
    work_as old new _ (AnswersOffice kind (Prices what_if text) reply)
    (λ was before events is asked. record {
      told = told;
      made = asked;
      replied =
          c.answer_of.ensures ∙ ap (λ kind. office_reply kind told) c.form_kind-kind.ensures;
    })
    c.ask_without_reader.ensures in
    let answered : IsTransition old new (AnswersWhatIf what_if text reply) =
    subst (λ utf8. IsTransition old new
    (UnlessBad (not utf8) (AnswersOffice kind (Prices what_if text) reply) reply))
    (sym is_text) priced in
    subst (λ text. IsTransition old new (AnswersWhatIf what_if text reply))
    (ap (λ bytes. bytes.items) c.in-Ok.ensures.ok) answered
