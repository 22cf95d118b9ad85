-- The rows that a walk without a fault leaves: those of an argument hold a value that passed.
use Rattle.std.proofs.Common.{◌≡◌, ◌&&◌, ℕ, zero, suc, Bool, true, false, cond, List, [], ◌∷◌}
use Rattle.std.proofs.Common.{length, drop, Option, Some, None, refl, sym, subst, find, fold}
use Rattle.std.proofs.Common.{bytes_eq, chars, not, is_some, encode_utf8, slice_get}
use Rattle.clap.specs.Faults.{bundle_fault, bundle_step_fault, flag_word_fault, flags_fault}
use Rattle.clap.specs.Faults.{long_fault, option_fault, positional_fault, react_fault, other_fault}
use Rattle.clap.specs.Faults.{settle_fault, short_fault, step_fault, stray_fault, turn_fault}
use Rattle.clap.specs.Faults.{use_fault, walk_fault, word_fault}
use Rattle.clap.specs.Lexer.{long_of, short_of}
use Rattle.clap.specs.Walk.{Held, Outcome, Step, Waiting, Walk, action_of, after_flag, after_step}
use Rattle.clap.specs.Walk.{arg_by_id, arg_by_index, arg_by_long, arg_by_short, attached_value}
use Rattle.clap.specs.Walk.{bundle_met, bundle_step, done, flag_met, has_long, has_short, idle}
use Rattle.clap.specs.Walk.{is_pending, long_met, long_or_other, option_met, option_word, plain}
use Rattle.clap.specs.Walk.{plain_word, positional, pushed, reacted, refused, settled, settled_rows}
use Rattle.clap.specs.Walk.{short_met, short_or_plain, subcommand_met, subcommand_or_other}
use Rattle.clap.specs.Walk.{takes_several, takes_values, to_positional, used, used_by_id, value}
use Rattle.clap.specs.Walk.{values_or_missing, waits, walked, walked_from, word_met, next, option}
use Rattle.clap.specs.Walk.{subcommand, trailing}
use Rattle.command_line.proofs.RowLemmas.{AllFit, Fits, OwnIn, Takes, neither, own_found}
use Rattle.command_line.proofs.RowLemmas.{used_as_fits}
use Rattle.command_line.proofs.Shared.{option_map_or, Kinds, or_else, Shape, Names, Row, Rule, Text}
use Rattle.command_line.proofs.Shared.{reading_by}
use Rattle.clap.specs.declared.error.kind.ErrorKind.TheVariants as kind

-- ---- the words of a flag leave the rows

plain_rows : (c : List Rule) (waiting : Waiting) (word : Text) (h : Held)
    → (plain_word c waiting word h).0.rows ≡ h.rows
plain_rows c (option id) word h = go (arg_by_id c id)
  where
    go : (o : Option Rule) → (option_word o id word h).0.rows ≡ h.rows
    go None = refl
    go (Some a) = refl
plain_rows c idle word h = refl
plain_rows c positional word h = refl

flag_rows : (c : List Rule) (waiting : Waiting) (word : Text) (h : Held) (outcome : Outcome)
    → (after_flag c waiting word h outcome).0.rows ≡ h.rows
flag_rows c waiting word h done = refl
flag_rows c waiting word h (waits id) = refl
flag_rows c waiting word h plain = plain_rows c waiting word h
flag_rows c waiting word h refused = plain_rows c waiting word h

-- ---- the walk over the words of one command, and one of its arguments

module _ (s : Shape) (t : Rule) (own : OwnIn t s.rules) (takes : Takes s.args_override_self t) where
  used_fits : (p : Rule → Bool) (a : Rule) → find p s.rules ≡ Some a → (values : List Text)
      (rows : List Row) → use_fault s.args_override_self a values rows ≡ [] → AllFit t rows
      → AllFit t (used a values rows)
  used_fits p a found values rows none fits =
      used_as_fits t (action_of a) a.id (reading_by a) (values_or_missing a values) rows
      (λ same.
      let is : a ≡ t = own_found t s.rules p a own found same in
      subst (λ (b : Rule). Fits t (reading_by b) (values_or_missing b values)) (sym is)
      (takes values rows
      (subst (λ (b : Rule). use_fault s.args_override_self b values rows ≡ []) is none)))
      fits

  by_id_fits : (p : Rule → Bool) (o : Option Rule) → find p s.rules ≡ o → (values : List Text)
      (rows : List Row)
      → option_map_or (λ a. use_fault s.args_override_self a values rows) o [] ≡ []
      → AllFit t rows → AllFit t (used_by_id o values rows)
  by_id_fits p None is values rows none fits = fits
  by_id_fits p (Some a) is values rows none fits = used_fits p a is values rows none fits

  pub settled_fits : (pending : Option (Text × List Text)) (rows : List Row)
      → option_map_or (λ q. option_map_or (λ a. use_fault s.args_override_self a q.1 rows)
      (arg_by_id s.rules q.0) []) pending [] ≡ [] → AllFit t rows
      → AllFit t (settled_rows s.rules pending rows)
  settled_fits None rows none fits = fits
  settled_fits (Some q) rows none fits =
      by_id_fits (λ a. bytes_eq a.id q.0) (arg_by_id s.rules q.0) refl q.1 rows none fits

  reacted_fits : (p : Rule → Bool) (a : Rule) → find p s.rules ≡ Some a → (values : List Text)
      (h : Held) → react_fault s.rules s.args_override_self a values h ≡ [] → AllFit t h.rows
      → AllFit t (reacted s.rules a values h).rows
  reacted_fits p a found values h none fits =
      let parts = neither (settle_fault s.rules s.args_override_self h)
      (use_fault s.args_override_self a values (settled s.rules h).rows) none in
      used_fits p a found values (settled s.rules h).rows parts.1
      (settled_fits h.pending h.rows parts.0 fits)

  option_fits : (p : Rule → Bool) (a : Rule) → find p s.rules ≡ Some a → (v : Option Text)
      (h : Held) → option_fault s.rules s.args_override_self a v h ≡ [] → AllFit t h.rows
      → AllFit t (option_met s.rules a v h).0.rows
  option_fits p a found (Some v) h none fits = reacted_fits p a found (v ∷ []) h none fits
  option_fits p a found None h none fits = settled_fits h.pending h.rows none fits

  long_fits : (p : Rule → Bool) (o : Option Rule) → find p s.rules ≡ o → (v : Option Text)
      (h : Held) → long_fault s.rules s.args_override_self o v h ≡ [] → AllFit t h.rows
      → AllFit t (long_met s.rules o v h).0.rows
  long_fits p None is v h none fits = fits
  long_fits p (Some a) is v h none fits = go (takes_values a) v none
    where
      go : (b : Bool) (v : Option Text)
          → cond b (option_fault s.rules s.args_override_self a v h)
          (cond (is_some v) (kind.TooManyValues ∷ [])
          (react_fault s.rules s.args_override_self a [] h)) ≡ []
          → AllFit t (cond b (option_met s.rules a v h) (flag_met s.rules a v h)).0.rows
      go true v none = option_fits p a is v h none fits
      go false (Some x) none = fits
      go false None none = reacted_fits p a is [] h none fits

  short_fits : (p : Rule → Bool) (o : Option Rule) → find p s.rules ≡ o → (rest : Text) (h : Held)
      (next_fault : Held → Kinds) (more : Held → Held × Outcome)
      → ((g : Held) → next_fault g ≡ [] → AllFit t g.rows → AllFit t (more g).0.rows)
      → short_fault s.rules s.args_override_self o rest h next_fault ≡ [] → AllFit t h.rows
      → AllFit t (short_met s.rules o rest h more).0.rows
  short_fits p None is rest h next_fault more later none fits = fits
  short_fits p (Some a) is rest h next_fault more later none fits = go (takes_values a) none
    where
      go : (b : Bool)
          → cond b (option_fault s.rules s.args_override_self a (attached_value rest) h)
          (or_else (react_fault s.rules s.args_override_self a [] h)
          (next_fault (reacted s.rules a [] h))) ≡ []
          → AllFit t (cond b (option_met s.rules a (attached_value rest) h)
          (more (reacted s.rules a [] h))).0.rows
      go true none = option_fits p a is (attached_value rest) h none fits
      go false none =
          let parts = neither (react_fault s.rules s.args_override_self a [] h)
          (next_fault (reacted s.rules a [] h)) none in
          later (reacted s.rules a [] h) parts.1 (reacted_fits p a is [] h parts.0 fits)

  character_fits : (o : Option ℕ) (flags : Text) (skip : ℕ) (so_far : Outcome) (h : Held)
      (next_fault : Text → ℕ → Held → Kinds) (more : Text → ℕ → Outcome → Held → Held × Outcome)
      → ((rest : Text) (k : ℕ) (x : Outcome) (g : Held) → next_fault rest k g ≡ [] → AllFit t g.rows
      → AllFit t (more rest k x g).0.rows)
      → bundle_step_fault s.rules s.args_override_self o flags skip h next_fault ≡ []
      → AllFit t h.rows → AllFit t (bundle_step s.rules o flags skip so_far h more).0.rows
  character_fits None flags skip so_far h next_fault more later none fits = fits
  character_fits (Some x) flags zero so_far h next_fault more later none fits =
      let rest = drop (length (encode_utf8 x)) flags in
      short_fits (λ a. not (is_some a.index) && has_short a x) (arg_by_short s.rules x) refl rest h
      (next_fault rest 0) (more rest 0 done) (λ g. later rest 0 done g) none fits
  character_fits (Some x) flags (suc skip) so_far h next_fault more later none fits =
      later (drop (length (encode_utf8 x)) flags) skip so_far h none fits

  bundle_fits : (k : ℕ) (flags : Text) (skip : ℕ) (so_far : Outcome) (h : Held)
      → flags_fault s.rules s.args_override_self k flags skip h ≡ [] → AllFit t h.rows
      → AllFit t (bundle_met s.rules k flags skip so_far h).0.rows
  unfolding bundle_met flags_fault
  bundle_fits zero flags skip so_far h none fits = fits
  bundle_fits (suc k) flags skip so_far h none fits =
      character_fits (slice_get (chars flags) 0) flags skip so_far h
      (flags_fault s.rules s.args_override_self k) (bundle_met s.rules k)
      (λ rest j x g clean. bundle_fits k rest j x g clean) none fits

  short_word_fits : (f : Option Text) (waiting : Waiting) (word : Text) (h : Held)
      → option_map_or (λ flags. bundle_fault s.rules s.args_override_self flags h) f [] ≡ []
      → AllFit t h.rows → AllFit t (short_or_plain s.rules waiting word f h).0.rows
  short_word_fits (Some flags) waiting word h none fits =
      let met = bundle_met s.rules (length flags) flags h.skip plain (record h { skip = 0 }) in
      subst (λ rows. AllFit t rows) (sym (flag_rows s.rules waiting word met.0 met.1))
      (bundle_fits (length flags) flags h.skip plain (record h { skip = 0 }) none fits)
  short_word_fits None waiting word h none fits =
      subst (λ rows. AllFit t rows) (sym (plain_rows s.rules waiting word h)) fits

  flag_word_fits : (o : Option (Text × Option Text)) (waiting : Waiting) (word : Text) (h : Held)
      → flag_word_fault s.rules s.args_override_self o word h ≡ [] → AllFit t h.rows
      → AllFit t (long_or_other s.rules waiting word o h).0.rows
  flag_word_fits (Some q) waiting word h none fits =
      let met = long_met s.rules (arg_by_long s.rules q.0) q.1 h in
      subst (λ rows. AllFit t rows) (sym (flag_rows s.rules waiting word met.0 met.1))
      (long_fits (λ a. not (is_some a.index) && has_long a q.0) (arg_by_long s.rules q.0) refl q.1 h
      none fits)
  flag_word_fits None waiting word h none fits =
      short_word_fits (short_of word) waiting word h none fits

  met_fits : (names : Names) (is_trailing : Bool) (waiting : Waiting) (position : ℕ) (word : Text)
      (h : Held) → word_fault s names is_trailing waiting word h ≡ [] → AllFit t h.rows
      → AllFit t (word_met s.rules names is_trailing waiting position word h).0.rows
  met_fits names true waiting position word h none fits = fits
  met_fits names false waiting position word h none fits = go (subcommand_met names waiting word) none
    where
      dashes : (b : Bool)
          → cond b [] (flag_word_fault s.rules s.args_override_self (long_of word) word h) ≡ []
          → AllFit t (cond b (h, trailing position)
          (long_or_other s.rules waiting word (long_of word) h)).0.rows
      dashes true none = fits
      dashes false none = flag_word_fits (long_of word) waiting word h none fits

      go : (o : Option Text) → other_fault s o word h ≡ []
          → AllFit t (subcommand_or_other s.rules o waiting position word h).0.rows
      go (Some name) none = fits
      go None none = dashes (bytes_eq word (45 ∷ 45 ∷ [])) none

  positional_fits : (o : Option Rule) (word : Text) (w : Walk) (h : Held)
      → option_map_or (λ a. positional_fault s.rules s.args_override_self a h) o (stray_fault s) ≡ []
      → AllFit t h.rows → AllFit t (to_positional s.rules o word w h).held.rows
  positional_fits None word w h none fits = fits
  positional_fits (Some a) word w h none fits =
      go (is_pending a h.pending && takes_several a) none
    where
      go : (b : Bool) → cond b [] (settle_fault s.rules s.args_override_self h) ≡ []
          → AllFit t (pushed a.id word (cond b h (settled s.rules h))).rows
      go true none = fits
      go false none = settled_fits h.pending h.rows none fits

  after_fits : (word : Text) (w : Walk) (h : Held) (step : Step)
      → step_fault s w.position h step ≡ [] → AllFit t h.rows
      → AllFit t (after_step s.rules word w h step).held.rows
  after_fits word w h (next waiting) none fits = fits
  after_fits word w h (trailing position) none fits = fits
  after_fits word w h (subcommand name) none fits = fits
  after_fits word w h value none fits =
      positional_fits (arg_by_index s.rules w.position) word w h none fits

  turned_fits : (names : Names) (w : Walk) (word : Text) (o : Option (Text × List Text))
      → (let met = word_met s.rules names w.is_trailing w.waiting w.position word w.held in
      cond (is_some o) [] (or_else (word_fault s names w.is_trailing w.waiting word w.held)
      (step_fault s w.position met.0 met.1)) ≡ []) → AllFit t w.held.rows
      → AllFit t (walked_from s.rules names o w word).held.rows
  turned_fits names w word (Some p) none fits = fits
  turned_fits names w word None none fits =
      let met = word_met s.rules names w.is_trailing w.waiting w.position word w.held in
      let parts = neither (word_fault s names w.is_trailing w.waiting word w.held)
      (step_fault s w.position met.0 met.1) none in
      after_fits word w met.0 met.1 parts.1
      (met_fits names w.is_trailing w.waiting w.position word w.held parts.0 fits)

  turn_fits : (names : Names) (w : Walk) (word : Text) → turn_fault s names w word ≡ []
      → AllFit t w.held.rows → AllFit t (walked s.rules names w word).held.rows
  unfolding walked
  turn_fits names w word none fits = turned_fits names w word w.stopped none fits

  pub walk_fits : (names : Names) (words : List Text) (w : Walk) → walk_fault s names w words ≡ []
      → AllFit t w.held.rows → AllFit t (fold (walked s.rules names) w words).held.rows
  unfolding walk_fault
  walk_fits names [] w none fits = fits
  walk_fits names (word ∷ rest) w none fits =
      let parts = neither (turn_fault s names w word)
      (walk_fault s names (walked s.rules names w word) rest) none in
      walk_fits names rest (walked s.rules names w word) parts.1
      (turn_fits names w word parts.0 fits)
