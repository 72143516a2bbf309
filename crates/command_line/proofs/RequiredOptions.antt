-- Where a parse finds no fault, each option that was used has a value, and each that is required was used.
use Rattle.std.proofs.Common.{◌≡◌, ◌&&◌, ℕ, Bool, cond, true, false, zero, suc, List, [], ◌∷◌, ◌++◌, length, Option, Some, None, is_some, refl}
use Rattle.std.specs.Prelude.{⊤, if◌then◌else◌, option_and_then, slice_get, drop, encode_utf8}
use Rattle.std.specs.List.{find, fold}
use Rattle.std.specs.Option.{option_map_or}
use Rattle.std.specs.Str.{bytes_eq, chars}
use Rattle.clap.specs.Lexer.{long_of, short_of}
use Rattle.clap.specs.Facts.{explicit_source}
use Rattle.clap.specs.Kinds.{Kinds, or_else}
use Rattle.clap.specs.Takes.{is_given}
use Rattle.clap.specs.Walk.{Held, Names, Outcome, Row, Rule, Step, Text, Waiting, Walk, after_flag, after_step, arg_by_id, arg_by_index, arg_by_long, arg_by_short, at_row, attached_value, bundle, bundle_met, bundle_step, default_rows, done, finished, first_of, flag_met, has_row, idle, is_pending, long_met, long_or_other, more_values, next, nothing_held, option, option_met, option_word, plain, plain_word, positional, pushed, reacted, reading_by, refused, rows_after, settled, settled_rows, short_met, short_or_plain, subcommand, subcommand_met, subcommand_or_other, takes_several, takes_values, to_positional, trailing, used, used_by_id, value, waits, walk, walk_from, walked, walked_from, with_default, with_values, without, word_met}
use Rattle.clap.specs.Faults.{bundle_fault, bundle_step_fault, check_fault, flag_word_fault, flags_fault, level_fault, long_fault, option_fault, other_fault, positional_fault, react_fault, settle_fault, short_fault, step_fault, stray_fault, turn_fault, use_fault, walk_fault, word_fault}
use Rattle.clap.specs.Simple.{Shape}
use Rattle.clap.specs.declared.error.kind.ErrorKind.TheVariants as kind
use Rattle.clap.specs.declared.parser.matches.ValueSource.{ValueSource}
use Rattle.clap.specs.declared.builder.value_parser.Reading.{Reading}

-- neither of two steps fails
pub neither : (a b : Kinds) → or_else a b ≡ [] → (a ≡ []) × (b ≡ [])
neither [] b e = (refl, e)
neither (k ∷ ks) b e = cc

-- ---- rows

-- each row has a value
abbrev pub Filled : List Row → Type 0
Filled [] = ⊤
Filled (r ∷ rs) = (is_some (slice_get r.values 0) ≡ true) × Filled rs

joined : (xs ys : List Row) → Filled xs → Filled ys → Filled (xs ++ ys)
joined [] ys f g = g
joined (x ∷ xs) ys f g = (f.0, joined xs ys f.1 g)

changed : (id : Text) (change : Row → List Row) (missing rows : List Row) → Filled missing → ((r : Row) → Filled (change r)) → Filled rows
    → Filled (at_row id change missing rows)
changed id change missing [] m c f = m
changed id change missing (r ∷ rs) m c f = go (bytes_eq r.id id) (changed id change missing rs m c f.1)
  where
    go : (b : Bool) → Filled (at_row id change missing rs) → Filled (cond b (change r ++ rs) (r ∷ at_row id change missing rs))
    go true rec = joined (change r) rs (c r) f.1
    go false rec = (f.0, rec)

more : (xs : List Text) (v : Text) (vs : List Text) → is_some (slice_get (xs ++ v ∷ vs) 0) ≡ true
more [] v vs = refl
more (x ∷ xs) v vs = refl

valued : (id : Text) (how : Reading) (s : ValueSource) (v : Text) (vs : List Text) (rows : List Row) → Filled rows → Filled (with_values id how s (v ∷ vs) rows)
valued id how s v vs rows f = changed id (more_values s (v ∷ vs)) _ rows (refl, tt) (λ r. (more r.values v vs, tt)) f

-- a value of its own replaces what an option had
pub replaced : (id : Text) (how : Reading) (s : ValueSource) (v : Text) (vs : List Text) (rows : List Row) → Filled rows
    → Filled (with_values id how s (v ∷ vs) (without id rows))
replaced id how s v vs rows f = valued id how s v vs (without id rows) (changed id (λ _. []) [] rows tt (λ r. tt) f)

-- what was given has a value
pub given_has : (id : Text) (rows : List Row) → Filled rows → is_given id rows ≡ true → is_some (first_of id rows) ≡ true
given_has id [] f e = cc
given_has id (r ∷ rs) f e = go (bytes_eq r.id id) (given_has id rs f.1) e
  where
    go : (b : Bool) → (is_given id rs ≡ true → is_some (first_of id rs) ≡ true)
        → option_map_or (λ (x : Row). explicit_source x.source) (cond b (Some r) (find (λ x. bytes_eq x.id id) rs)) false ≡ true
        → is_some (option_and_then (λ (x : Row). slice_get x.values 0) (cond b (Some r) (find (λ x. bytes_eq x.id id) rs))) ≡ true
    go true rec e = f.0
    go false rec e = rec e

-- ---- the rules of a command

-- a use of the argument that does not fail leaves a value in each row
abbrev pub Fills : Rule → Type 0
Fills a = (again : Bool) (values : List Text) (rows : List Row) → use_fault again a values rows ≡ [] → Filled rows → Filled (used a values rows)

abbrev pub Each : List Rule → Type 0
Each [] = ⊤
Each (a ∷ rest) = Fills a × Each rest

abbrev FillsIf : Option Rule → Type 0
FillsIf None = ⊤
FillsIf (Some a) = Fills a

found : (c : List Rule) (p : Rule → Bool) → Each c → FillsIf (find p c)
found [] p h = tt
found (x ∷ xs) p h = go (p x) (found xs p h.1)
  where
    go : (b : Bool) → FillsIf (find p xs) → FillsIf (cond b (Some x) (find p xs))
    go true rec = h.0
    go false rec = rec

-- ---- one word

module _ (c : List Rule) (again : Bool) (h : Each c) where
  settled_at : (p : Option (Text × List Text)) (rows : List Row)
      → option_map_or (λ q. option_map_or (λ a. use_fault again a q.1 rows) (arg_by_id c q.0) []) p [] ≡ [] → Filled rows → Filled (settled_rows c p rows)
  settled_at None rows e f = f
  settled_at (Some p) rows e f = go (arg_by_id c p.0) (found c _ h) e
    where
      go : (o : Option Rule) → FillsIf o → option_map_or (λ a. use_fault again a p.1 rows) o [] ≡ [] → Filled (used_by_id o p.1 rows)
      go None i e = f
      go (Some a) i e = i again p.1 rows e f

  settled_filled : (x : Held) → settle_fault c again x ≡ [] → Filled x.rows → Filled (settled c x).rows
  settled_filled x e f = settled_at x.pending x.rows e f

  reacted_filled : (a : Rule) → Fills a → (values : List Text) (x : Held) → react_fault c again a values x ≡ [] → Filled x.rows →
      Filled (reacted c a values x).rows
  reacted_filled a i values x e f =
      let b = neither (settle_fault c again x) _ e in
      i again values (settled c x).rows b.1 (settled_filled x b.0 f)

  option_filled : (a : Rule) → Fills a → (v : Option Text) (x : Held) → option_fault c again a v x ≡ [] → Filled x.rows → Filled (option_met c a v x).0.rows
  option_filled a i None x e f = settled_filled x e f
  option_filled a i (Some v) x e f = reacted_filled a i (v ∷ []) x e f

  flag_filled : (a : Rule) → Fills a → (v : Option Text) (x : Held) → (if is_some v then kind.TooManyValues ∷ [] else react_fault c again a [] x) ≡ []
      → Filled x.rows → Filled (flag_met c a v x).0.rows
  flag_filled a i None x e f = reacted_filled a i [] x e f
  flag_filled a i (Some v) x e f = f

  long_filled : (o : Option Rule) → FillsIf o → (v : Option Text) (x : Held) → long_fault c again o v x ≡ [] → Filled x.rows → Filled (long_met c o v x).0.rows
  long_filled None i v x e f = f
  long_filled (Some a) i v x e f = go (takes_values a) e
    where
      go : (b : Bool) → cond b (option_fault c again a v x) (if is_some v then kind.TooManyValues ∷ [] else react_fault c again a [] x) ≡ []
          → Filled (cond b (option_met c a v x) (flag_met c a v x)).0.rows
      go true e = option_filled a i v x e f
      go false e = flag_filled a i v x e f

  short_filled : (o : Option Rule) → FillsIf o → (rest : Text) (x : Held) (faults : Held → Kinds) (after : Held → Held × Outcome)
      → ((y : Held) → faults y ≡ [] → Filled y.rows → Filled (after y).0.rows)
      → short_fault c again o rest x faults ≡ [] → Filled x.rows → Filled (short_met c o rest x after).0.rows
  short_filled None i rest x faults after n e f = f
  short_filled (Some a) i rest x faults after n e f = go (takes_values a) e
    where
      go : (b : Bool) → cond b (option_fault c again a (attached_value rest) x) (or_else (react_fault c again a [] x) (faults (reacted c a [] x))) ≡ []
          → Filled (cond b (option_met c a (attached_value rest) x) (after (reacted c a [] x))).0.rows
      go true e = option_filled a i (attached_value rest) x e f
      go false e =
          let b = neither (react_fault c again a [] x) _ e in
          n (reacted c a [] x) b.1 (reacted_filled a i [] x b.0 f)

  letter_filled : (o : Option ℕ) (flags : Text) (skip : ℕ) (so_far : Outcome) (x : Held) (faults : Text → ℕ → Held → Kinds)
      (after : Text → ℕ → Outcome → Held → Held × Outcome)
      → ((rest : Text) (k : ℕ) (out : Outcome) (y : Held) → faults rest k y ≡ [] → Filled y.rows → Filled (after rest k out y).0.rows)
      → bundle_step_fault c again o flags skip x faults ≡ [] → Filled x.rows → Filled (bundle_step c o flags skip so_far x after).0.rows
  letter_filled None flags skip so_far x faults after n e f = f
  letter_filled (Some y) flags zero so_far x faults after n e f =
      let rest = drop (length (encode_utf8 y)) flags in
      short_filled (arg_by_short c y) (found c _ h) rest x (faults rest 0) (after rest 0 done) (n rest 0 done) e f
  letter_filled (Some y) flags (suc skip) so_far x faults after n e f = n (drop (length (encode_utf8 y)) flags) skip so_far x e f

  bundle_filled : (k : ℕ) (flags : Text) (skip : ℕ) (so_far : Outcome) (x : Held) → flags_fault c again k flags skip x ≡ [] → Filled x.rows
      → Filled (bundle_met c k flags skip so_far x).0.rows
  unfolding flags_fault bundle_met
  bundle_filled zero flags skip so_far x e f = f
  bundle_filled (suc k) flags skip so_far x e f =
      letter_filled (slice_get (chars flags) 0) flags skip so_far x (flags_fault c again k) (bundle_met c k) (bundle_filled k) e f

  plain_filled : (waiting : Waiting) (word : Text) (x : Held) → Filled x.rows → Filled (plain_word c waiting word x).0.rows
  plain_filled idle word x f = f
  plain_filled positional word x f = f
  plain_filled (option id) word x f = go (arg_by_id c id)
    where
      go : (o : Option Rule) → Filled (option_word o id word x).0.rows
      go None = f
      go (Some a) = f

  after_filled : (waiting : Waiting) (word : Text) (x : Held) (out : Outcome) → Filled x.rows → Filled (after_flag c waiting word x out).0.rows
  after_filled waiting word x done f = f
  after_filled waiting word x (waits id) f = f
  after_filled waiting word x plain f = plain_filled waiting word x f
  after_filled waiting word x refused f = plain_filled waiting word x f

  flag_word_filled : (waiting : Waiting) (word : Text) (p : Option (Text × Option Text)) (x : Held) → flag_word_fault c again p word x ≡ [] → Filled x.rows
      → Filled (long_or_other c waiting word p x).0.rows
  flag_word_filled waiting word (Some p) x e f =
      let met = long_met c (arg_by_long c p.0) p.1 x in
      after_filled waiting word met.0 met.1 (long_filled (arg_by_long c p.0) (found c _ h) p.1 x e f)
  flag_word_filled waiting word None x e f = go (short_of word) e
    where
      go : (o : Option Text) → option_map_or (λ flags. bundle_fault c again flags x) o [] ≡ [] → Filled (short_or_plain c waiting word o x).0.rows
      go None e = plain_filled waiting word x f
      go (Some flags) e =
          after_filled waiting word (bundle c flags x).0 (bundle c flags x).1
          (bundle_filled (length flags) flags x.skip plain (record x { skip = 0 }) e f)

-- ---- all words, and what comes after them

module _ (s : Shape) (h : Each s.rules) where
  other_filled : (met : Option Text) (waiting : Waiting) (position : ℕ) (word : Text) (x : Held) → other_fault s met word x ≡ [] → Filled x.rows
      → Filled (subcommand_or_other s.rules met waiting position word x).0.rows
  other_filled (Some name) waiting position word x e f = f
  other_filled None waiting position word x e f = go (bytes_eq word (45 ∷ 45 ∷ [])) e
    where
      go : (b : Bool) → cond b [] (flag_word_fault s.rules s.args_override_self (long_of word) word x) ≡ []
          → Filled (cond b (x, trailing position) (long_or_other s.rules waiting word (long_of word) x)).0.rows
      go true e = f
      go false e = flag_word_filled s.rules s.args_override_self h waiting word (long_of word) x e f

  met_filled : (names : Names) (is_trailing : Bool) (waiting : Waiting) (position : ℕ) (word : Text) (x : Held)
      → word_fault s names is_trailing waiting word x ≡ [] → Filled x.rows → Filled (word_met s.rules names is_trailing waiting position word x).0.rows
  met_filled names true waiting position word x e f = f
  met_filled names false waiting position word x e f = other_filled (subcommand_met names waiting word) waiting position word x e f

  position_filled : (o : Option Rule) (word : Text) (w : Walk) (x : Held)
      → option_map_or (λ a. positional_fault s.rules s.args_override_self a x) o (stray_fault s) ≡ [] → Filled x.rows
      → Filled (to_positional s.rules o word w x).held.rows
  position_filled None word w x e f = f
  position_filled (Some a) word w x e f = go (is_pending a x.pending && takes_several a) e
    where
      go : (b : Bool) → cond b [] (settle_fault s.rules s.args_override_self x) ≡ [] → Filled (pushed a.id word (cond b x (settled s.rules x))).rows
      go true e = f
      go false e = settled_filled s.rules s.args_override_self h x e f

  step_filled : (word : Text) (w : Walk) (x : Held) (step : Step) → step_fault s w.position x step ≡ [] → Filled x.rows
      → Filled (after_step s.rules word w x step).held.rows
  step_filled word w x (next waiting) e f = f
  step_filled word w x (trailing position) e f = f
  step_filled word w x (subcommand name) e f = f
  step_filled word w x value e f = position_filled (arg_by_index s.rules w.position) word w x e f

  turn_filled : (names : Names) (w : Walk) (word : Text) → turn_fault s names w word ≡ [] → Filled w.held.rows → Filled (walked s.rules names w word).held.rows
  unfolding walked
  turn_filled names w word e f = go w.stopped e
    where
      go : (o : Option (Text × List Text))
          → (let met = word_met s.rules names w.is_trailing w.waiting w.position word w.held in
          if is_some o then [] else or_else (word_fault s names w.is_trailing w.waiting word w.held) (step_fault s w.position met.0 met.1)) ≡ []
          → Filled (walked_from s.rules names o w word).held.rows
      go (Some p) e = f
      go None e =
          let met = word_met s.rules names w.is_trailing w.waiting w.position word w.held in
          let b = neither (word_fault s names w.is_trailing w.waiting word w.held) _ e in
          step_filled word w met.0 met.1 b.1 (met_filled names w.is_trailing w.waiting w.position word w.held b.0 f)

  walk_filled : (names : Names) (words : List Text) (w : Walk) → walk_fault s names w words ≡ [] → Filled w.held.rows
      → Filled (fold (walked s.rules names) w words).held.rows
  unfolding walk_fault
  walk_filled names [] w e f = f
  walk_filled names (word ∷ rest) w e f =
      let b = neither (turn_fault s names w word) _ e in
      walk_filled names rest (walked s.rules names w word) b.1 (turn_filled names w word b.0 f)

  values_filled : (id : Text) (how : Reading) (values : List Text) (rows : List Row) → Filled rows → Filled (default_rows id how values rows)
  values_filled id how [] rows f = f
  values_filled id how (v ∷ vs) rows f = valued id how _ v vs rows f

  default_filled : (a : Rule) (rows : List Row) → Filled rows → Filled (with_default rows a)
  default_filled a rows f = go (has_row a.id rows)
    where
      go : (b : Bool) → Filled (cond b rows (default_rows a.id (reading_by a) a.defaults rows))
      go true = f
      go false = values_filled a.id (reading_by a) a.defaults rows f

  defaults_filled : (rules : List Rule) (rows : List Row) → Filled rows → Filled (fold with_default rows rules)
  defaults_filled [] rows f = f
  defaults_filled (a ∷ rest) rows f = defaults_filled rest (with_default rows a) (default_filled a rows f)

  -- a level of the parse that does not fail
  pub level_filled : (names : Names) (words : List Text) (has : Bool) (below : Kinds) → level_fault s names nothing_held words has below ≡ []
      → Filled (rows_after s.rules names words) × (below ≡ []) × (check_fault s (rows_after s.rules names words) has ≡ [])
  level_filled names words has below e =
      let end = (walk s.rules names nothing_held words).held in
      let a = neither (walk_fault s names (walk_from nothing_held) words) _ e in
      let b = neither below _ a.1 in
      let c = neither (settle_fault s.rules s.args_override_self end) _ b.1 in
      let d = neither _ (check_fault s (finished s.rules end) has) c.1 in
      let walked_all = walk_filled names words (walk_from nothing_held) a.0 tt in
      (defaults_filled s.rules (settled s.rules end).rows (settled_filled s.rules s.args_override_self h end c.0 walked_all), b.0, d.1)
