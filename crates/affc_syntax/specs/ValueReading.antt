-- Reading drafts of values.
use Rattle.std.specs.Prelude.{[], ℕ, zero, suc, ◌-◌, ◌&&◌, ◌==◌, Bool, true, false, length, codes, Ok, Err, if◌then◌else◌}
use Rattle.affc_ast.specs.declared.tree.Op.{Op}
use Rattle.affc_lex.specs.Bytes.{same}
use Rattle.affc_grammar.specs.Grammar.{Symbol, Name}
use Rattle.affc_grammar.specs.Draft.{ValueDraft, load, constant, cast, complement, binary, shift}
use Rattle.affc_grammar.specs.Reader.{At, Deep, Reader, then_read}
use Rattle.affc_grammar.specs.Reading.{this_mark, any_word, shift_sign}
use Rattle.affc_syntax.specs.Ahead.{past}
use Rattle.affc_syntax.specs.ValueTests.{constant_value, shift_value, op_at}
use Rattle.affc_syntax.specs.Readers.{on_past, closed, all_more}
use Rattle.affc_syntax.specs.IxReading.{inside, dims}

-- whether a value is `uint64_t` alone, as the token of this number; with it in parentheses a cast begins
abbrev pub is_type_at : ℕ → ValueDraft → Bool
is_type_at at (load n w []) = n == at && same w (codes "uint64_t")
is_type_at at _ = false

-- the expression of a cast, behind its second "("
abbrev pub cast_of : (prelude : Bool) (end room : ℕ) → Reader Symbol ValueDraft
cast_of prelude end room us = then_read (inside prelude end room us) (λ a vs. closed (codes ")") (cast a) vs)

-- behind "(" value ")"
abbrev pub behind_parens : (prelude : Bool) (end room : ℕ) → ValueDraft → (is_type : Bool) → Reader Symbol ValueDraft
behind_parens prelude end room v true ts = on_past (past (this_mark (codes "(")) ts) (λ _ us. cast_of prelude end room us) (Ok (v, ts))
behind_parens prelude end room v false ts = Ok (v, ts)

abbrev pub complements : ℕ → ValueDraft → ValueDraft
complements zero v = v
complements (suc n) v = complements n (complement v)

-- how many "~" stand here
abbrev pub tilde : Unit {0} → ℕ → Reader Symbol ℕ
tilde _ n us = Ok (suc n, us)

abbrev pub more_tildes : ℕ → Reader Symbol ℕ
more_tildes = all_more (this_mark (codes "~")) tilde

-- behind a Word
abbrev pub loaded : (prelude : Bool) (end room at : ℕ) → Name → Reader Symbol ValueDraft
loaded prelude end room at w us = then_read (dims prelude end room us) (λ ds vs. Ok (load at w ds, vs))

-- `inner` reads a value behind an opened bracket
module _ (prelude : Bool) (end room : ℕ) (inner : Reader Symbol ValueDraft) where
  -- behind a "("
  abbrev pub parens : Reader Symbol ValueDraft
  parens us = then_read (inner us) (λ v vs. on_past (past (this_mark (codes ")")) vs) (λ _ ws. behind_parens prelude end room v (is_type_at (end - length us) v) ws) (Err (At vs)))

  -- a value without "~" in front
  abbrev pub plain : Reader Symbol ValueDraft
  plain ts =
      on_past (past constant_value ts) (λ n us. Ok (constant n, us))
      (on_past (past any_word ts) (λ w us. loaded prelude end room (end - length ts) w us)
      (on_past (past (this_mark (codes "(")) ts) (λ _ us. parens us) (Err (At ts))))

  abbrev pub primary : Reader Symbol ValueDraft
  primary ts = then_read (more_tildes zero ts) (λ n us. then_read (plain us) (λ v vs. Ok (complements n v, vs)))

-- ---- Levels of operators

abbrev pub shifted : (left : Bool) → ValueDraft → Reader Symbol ValueDraft
shifted left a us = on_past (past shift_value us) (λ by vs. Ok (shift left a by, vs)) (Err (At us))

abbrev pub more_shifts : ValueDraft → Reader Symbol ValueDraft
more_shifts = all_more shift_sign shifted

-- `below` reads a value of the level before
abbrev pub combined : Reader Symbol ValueDraft → Op → ValueDraft → Reader Symbol ValueDraft
combined below op a us = then_read (below us) (λ b vs. Ok (binary op a b, vs))

abbrev pub more_operations : ℕ → Reader Symbol ValueDraft → ValueDraft → Reader Symbol ValueDraft
more_operations n below = all_more (op_at n) (combined below)

-- further operands of level n
abbrev pub more_operands : ℕ → Reader Symbol ValueDraft → ValueDraft → Reader Symbol ValueDraft
more_operands n below = if n == 3 then more_shifts else more_operations n below

-- values of level n
abbrev pub value_level : Reader Symbol ValueDraft → ℕ → Reader Symbol ValueDraft
value_level primary zero ts = primary ts
value_level primary (suc n) ts = then_read (value_level primary n ts) (more_operands (suc n) (value_level primary n))

-- behind a bracket that was opened where so many could be
unfoldable pub value_inside : (prelude : Bool) (end room : ℕ) → Reader Symbol ValueDraft
value_inside prelude end zero ts = Err Deep
value_inside prelude end (suc room) ts = value_level (primary prelude end room (value_inside prelude end room)) 6 ts

abbrev pub value : (prelude : Bool) (end room : ℕ) → Reader Symbol ValueDraft
value prelude end room = value_level (primary prelude end room (value_inside prelude end room)) 6
