use Rattle.std.proofs.Common.{◌≡◌, ◌∙◌, ◌<◌, ℕ, List, [], ◌∷◌, Some, ap, length, slice_index_or}
use Rattle.std.proofs.Common.{slice_set, string_bytes, subst, sym, true}
use Rattle.std.specs.List.{position_or_len}
use Rattle.book_model.specs.Words.{AcceptedTerms, are_rising, is_effective}
use Rattle.book_model.proofs.ReplacedLemmas.{place_within, put_there, replaced_rising, took_there}
use Rattle.book_core.specs.OfficeRulings.{ruled_in}
use Rattle.book_core.proofs.rulings.Rulings.put_replacement.Goals as goal

pub put_in_place-requires-clause-within : goal.put_in_place-requires-clause-within
put_in_place-requires-clause-within c =
    let tariffs = c.args.self.now.tariffs.items in
    let new : AcceptedTerms =
    record { text = Some (string_bytes c.args.text); terms = c.args.tariff } in
    let at = c.place_of-place.ensures
    ∙ ap (position_or_len (is_effective c.args.tariff.effective)) c.deref.ensures.value in
    subst (λ (place : ℕ). place < length tariffs) (sym at)
    (place_within new tariffs c.requires.there)

pub returns-clause-put : goal.returns-clause-put
returns-clause-put c =
    let tariffs = c.args.self.now.tariffs.items in
    let new : AcceptedTerms =
    record { text = Some (string_bytes c.args.text); terms = c.args.tariff } in
    let at = c.place_of-place.ensures
    ∙ ap (position_or_len (is_effective c.args.tariff.effective)) c.deref.ensures.value in
    ap (λ (list : List AcceptedTerms). record (ruled_in c.args.self.now) { tariffs = list })
    (c.put_in_place.ensures.put
    ∙ ap (λ (place : ℕ). slice_set tariffs place new) at
    ∙ put_there new tariffs c.args.self.now.rising c.requires.there)

pub returns-clause-was : goal.returns-clause-was
returns-clause-was c =
    let tariffs = c.args.self.now.tariffs.items in
    let new : AcceptedTerms =
    record { text = Some (string_bytes c.args.text); terms = c.args.tariff } in
    let found = c.put_in_place.result in
    let at = c.place_of-place.ensures
    ∙ ap (position_or_len (is_effective c.args.tariff.effective)) c.deref.ensures.value in
    took_there new tariffs c.args.self.now.rising c.requires.there found
    ∙ ap (λ (one : AcceptedTerms). one ∷ [])
    (sym (c.put_in_place.ensures.was
    ∙ ap (λ (place : ℕ). slice_index_or tariffs place found) at))

pub invariant_of-self : goal.invariant_of-self
invariant_of-self c =
    let tariffs = c.args.self.now.tariffs.items in
    let new : AcceptedTerms =
    record { text = Some (string_bytes c.args.text); terms = c.args.tariff } in
    let at = c.place_of-place.ensures
    ∙ ap (position_or_len (is_effective c.args.tariff.effective)) c.deref.ensures.value in
    let put = c.put_in_place.ensures.put
    ∙ ap (λ (place : ℕ). slice_set tariffs place new) at
    ∙ put_there new tariffs c.args.self.now.rising c.requires.there in
    record {
      rising = subst (λ (list : List AcceptedTerms). are_rising list ≡ true) (sym put)
          (replaced_rising new tariffs c.args.self.now.rising);
      days = c.args.self.now.days;
      few = c.args.self.now.few;
    }
