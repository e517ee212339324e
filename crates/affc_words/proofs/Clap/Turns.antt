-- One word more in clap's walk, at a command of plain arguments.
use Rattle.std.proofs.Common.{◌≡◌, ◌∙◌, ◌&&◌, ◌||◌, ℕ, Bool, cond, true, false, List, [], ◌∷◌, Option, Some, None, refl, ap, codes}
use Rattle.std.specs.Prelude.{fold}
use Rattle.std.specs.Str.{bytes_eq}
use Rattle.clap.specs.Lexer.{long_of, short_of}
use Rattle.clap.specs.Walk.{Held, Row, Rule, Step, Waiting, Walk, idle, option, value, arg_by_id, arg_by_index, arg_by_long, reacted, settled, subcommand_met, to_positional, walked}
use Rattle.clap.specs.Simple.{Shape, new_shape}
use Rattle.clap.specs.Kinds.{Kinds, or_else}
use Rattle.clap.specs.Faults.{react_fault, settle_fault, step_fault, turn_fault, walk_fault}
use Rattle.affc_words.proofs.Clap.Uses.{Text, bytes_eq-refl}
use Rattle.affc_words.proofs.Clap.Plain.{plain_rule, or_else-nil, or_else-first}

-- the command of these arguments, as building leaves it
abbrev pub form_shape : Text → List Rule → Shape
form_shape name c = record (new_shape name) { rules = c; no_binary_name = true; disable_help_flag = true; disable_help_subcommand = true; is_built = true }

abbrev pub between : Held → Waiting → ℕ → Bool → Walk
between h waiting position trailing = record { held = h; waiting = waiting; position = position; is_trailing = trailing; stopped = None }

-- what is held once the option of this name waits for its value, or has it
abbrev pub pending : Held → Text → List Text → Held
pending h id values = record h { pending = Some (id, values) }

no_subcommand : (waiting : Waiting) (word : Text) → subcommand_met [] waiting word ≡ None
no_subcommand idle word = refl
no_subcommand (option id) word = refl
no_subcommand Rattle.clap.specs.Walk.positional word = refl

module _ (name : Text) (c : List Rule) where
  -- the kinds of the faults of the words, and of the use that is pending behind them
  abbrev pub faults : Walk → List Text → Kinds
  faults w ws = or_else (walk_fault (form_shape name c) [] w ws) (settle_fault c false (fold (walked c []) w ws).held)

  -- the rows behind the words
  abbrev pub ended : Walk → List Text → List Row
  ended w ws = (settled c (fold (walked c []) w ws).held).rows

  abbrev pub fault_at : Walk → Text → Kinds
  fault_at w word = turn_fault (form_shape name c) [] w word

  pub faults-nil : (w : Walk) → faults w [] ≡ settle_fault c false w.held
  unfolding walk_fault
  faults-nil w = refl

  -- a word without fault
  pub faults-next : (w v : Walk) (word : Text) (ws : List Text) → fault_at w word ≡ [] → walked c [] w word ≡ v → faults w (word ∷ ws) ≡ faults v ws
  unfolding walk_fault
  faults-next w v word ws e next =
      ap (λ k. or_else (or_else k (walk_fault (form_shape name c) [] (walked c [] w word) ws)) (settle_fault c false (fold (walked c []) (walked c [] w word) ws).held)) e
      ∙ ap (λ x. faults x ws) next

  pub ended-next : (w v : Walk) (word : Text) (ws : List Text) → walked c [] w word ≡ v → ended w (word ∷ ws) ≡ ended v ws
  ended-next w v word ws next = ap (λ x. ended x ws) next

  -- a word with a fault
  pub faults-stop : (w : Walk) (word : Text) (ws : List Text) → (fault_at w word ≡ [] → ⊥) → faults w (word ∷ ws) ≡ [] → ⊥
  unfolding walk_fault
  faults-stop w word ws bad e = bad (or_else-first _ _ (or_else-first _ _ e))

  -- ---- operands

  pub fault_at-operand : (h : Held) (p : ℕ) (word : Text) → bytes_eq word (codes "--") ≡ false → long_of word ≡ None → short_of word ≡ None
      → fault_at (between h idle p false) word ≡ step_fault (form_shape name c) p h value
  fault_at-operand h p word e long short = rw (e, long, short) refl

  pub walked-operand : (h : Held) (p : ℕ) (word : Text) → bytes_eq word (codes "--") ≡ false → long_of word ≡ None → short_of word ≡ None
      → walked c [] (between h idle p false) word ≡ to_positional c (arg_by_index c p) word (between h idle p false) h
  unfolding walked
  walked-operand h p word e long short = rw (e, long, short) refl

  pub walked-trailing : (h : Held) (waiting : Waiting) (p : ℕ) (word : Text)
      → walked c [] (between h waiting p true) word ≡ to_positional c (arg_by_index c p) word (between h waiting p true) h
  unfolding walked
  walked-trailing h waiting p word = refl

  -- no operand is left for the word
  pub step-stray : (h : Held) (p : ℕ) → arg_by_index c p ≡ None → step_fault (form_shape name c) p h value ≡ [] → ⊥
  step-stray h p none e = let bad = rw none at e in cc

  pub step-operand : (h : Held) (p : ℕ) (id : Text) (long : Option Text) (index : Option ℕ) (required : Bool) → arg_by_index c p ≡ Some (plain_rule id long index required)
      → step_fault (form_shape name c) p h value ≡ settle_fault c false h
  step-operand h p id long index required found = rw found (go (Rattle.clap.specs.Walk.is_pending (plain_rule id long index required) h.pending))
    where
      go : (b : Bool) → cond (b && false) [] (settle_fault c false h) ≡ settle_fault c false h
      go true = refl
      go false = refl

  pub to_positional-operand : (h : Held) (waiting : Waiting) (p : ℕ) (trailing : Bool) (word id : Text) (long : Option Text) (index : Option ℕ) (required : Bool)
      → to_positional c (Some (plain_rule id long index required)) word (between h waiting p trailing) h
      ≡ between (pending (settled c h) id (word ∷ [])) idle (Rattle.clap.specs.Walk.next_position (plain_rule id long index required) p) trailing
  to_positional-operand h waiting p trailing word id long index required =
      go (Rattle.clap.specs.Walk.is_pending (plain_rule id long index required) h.pending) trailing
    where
      go : (b t : Bool) → record {
        held = Rattle.clap.specs.Walk.pushed id word (cond (b && false) h (settled c h));
        waiting = idle;
        position = Rattle.clap.specs.Walk.next_position (plain_rule id long index required) p;
        is_trailing = t || false;
        stopped = None;
      } ≡ between (pending (settled c h) id (word ∷ [])) idle (Rattle.clap.specs.Walk.next_position (plain_rule id long index required) p) t
      go true true = refl
      go true false = refl
      go false true = refl
      go false false = refl

  -- ---- options

  pub unknown_option : (h : Held) (waiting : Waiting) (p : ℕ) (word id : Text) (given : Option Text) → bytes_eq word (codes "--") ≡ false → long_of word ≡ Some (id, given)
      → arg_by_long c id ≡ None → fault_at (between h waiting p false) word ≡ [] → ⊥
  unknown_option h waiting p word id given e long none bad = let f = rw (no_subcommand waiting word, e, long, none) at bad in cc

  module _ (id : Text) (long : Option Text) (index : Option ℕ) (required : Bool) where
    abbrev rule : Rule
    rule = plain_rule id long index required

    -- an option first uses what is pending
    pub option_settles : (h : Held) (waiting : Waiting) (p : ℕ) (word : Text) (given : Option Text) → bytes_eq word (codes "--") ≡ false → long_of word ≡ Some (id, given)
        → arg_by_long c id ≡ Some rule → fault_at (between h waiting p false) word ≡ [] → settle_fault c false h ≡ []
    option_settles h waiting p word None e is found none =
        let f = rw (no_subcommand waiting word, e, is, found) at none in or_else-first _ _ f
    option_settles h waiting p word (Some v) e is found none =
        let f = rw (no_subcommand waiting word, e, is, found) at none in or_else-first _ _ (or_else-first _ _ f)

    pub fault_at-joined : (h : Held) (p : ℕ) (word v : Text) → bytes_eq word (codes "--") ≡ false → long_of word ≡ Some (id, Some v) → arg_by_long c id ≡ Some rule
        → fault_at (between h idle p false) word ≡ react_fault c false rule (v ∷ []) h
    fault_at-joined h p word v e is found = rw (e, is, found) (or_else-nil _)

    pub walked-joined : (h : Held) (p : ℕ) (word v : Text) → bytes_eq word (codes "--") ≡ false → long_of word ≡ Some (id, Some v) → arg_by_long c id ≡ Some rule
        → walked c [] (between h idle p false) word ≡ between (reacted c rule (v ∷ []) h) idle p false
    unfolding walked
    walked-joined h p word v e is found = rw (e, is, found) refl

    pub fault_at-apart : (h : Held) (p : ℕ) (word : Text) → bytes_eq word (codes "--") ≡ false → long_of word ≡ Some (id, None) → arg_by_long c id ≡ Some rule
        → fault_at (between h idle p false) word ≡ settle_fault c false h
    fault_at-apart h p word e is found = rw (e, is, found) (or_else-nil _)

    pub walked-apart : (h : Held) (p : ℕ) (word : Text) → bytes_eq word (codes "--") ≡ false → long_of word ≡ Some (id, None) → arg_by_long c id ≡ Some rule
        → walked c [] (between h idle p false) word ≡ between (pending (settled c h) id []) (option id) p false
    unfolding walked
    walked-apart h p word e is found = rw (e, is, found) refl

    -- the value of an option that waits for it
    pub fault_at-value : (h : Held) (p : ℕ) (word : Text) → bytes_eq word (codes "--") ≡ false → long_of word ≡ None → short_of word ≡ None
        → fault_at (between (pending h id []) (option id) p false) word ≡ []
    fault_at-value h p word e none short = rw (e, none, short) refl

    pub walked-value : (h : Held) (p : ℕ) (word : Text) → bytes_eq word (codes "--") ≡ false → long_of word ≡ None → short_of word ≡ None → arg_by_id c id ≡ Some rule
        → walked c [] (between (pending h id []) (option id) p false) word ≡ between (pending h id (word ∷ [])) idle p false
    unfolding walked
    walked-value h p word e none short found = rw (e, none, short, found, bytes_eq-refl id) refl

  -- ---- the end of the options

  pub fault_at-end : (h : Held) (waiting : Waiting) (p : ℕ) (word : Text) → bytes_eq word (codes "--") ≡ true → fault_at (between h waiting p false) word ≡ []
  fault_at-end h waiting p word e = rw (no_subcommand waiting word, e) refl

  pub walked-end : (h : Held) (waiting : Waiting) (p : ℕ) (word : Text) → bytes_eq word (codes "--") ≡ true
      → walked c [] (between h waiting p false) word ≡ between h waiting p true
  unfolding walked
  walked-end h waiting p word e = rw (no_subcommand waiting word, e) refl
