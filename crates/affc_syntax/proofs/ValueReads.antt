-- The readers of values leave no more tokens than they were given, and their loops, as the code runs them.
use Rattle.std.proofs.Common.{◌≡◌, ◌≢◌, ℕ, zero, suc, ◌+◌, ◌-◌, ◌==◌, Bool, true, false, codes, ◌≤◌, ◌<◌, List, length, drop, map, Some, None, Ok, if◌then◌else◌, refl, sym, ap, subst, ◌∙◌, add-one, arith}
use Rattle.std.proofs.lemmas.Bool.Decides.{nat_tests}
use Rattle.affc_ast.specs.declared.tree.Op.{Op}
use Rattle.affc_grammar.specs.Grammar.{Symbol, Name}
use Rattle.affc_grammar.specs.Draft.{ValueDraft, load, constant, cast, binary, shift}
use Rattle.affc_grammar.specs.Reader.{At, Deep, Reader, then_read}
use Rattle.affc_grammar.specs.Reading.{this_mark, any_word, shift_sign}
use Rattle.affc_syntax.specs.declared.ahead.Stop as stop
use Rattle.affc_syntax.specs.declared.draft.symbol.Symbol as code
use Rattle.affc_syntax.specs.draft.Symbols.{seen}
use Rattle.affc_syntax.specs.Ahead.{past}
use Rattle.affc_syntax.specs.Readers.{Fails}
use Rattle.affc_syntax.specs.IxReading.{inside, dims}
use Rattle.affc_syntax.specs.ValueTests.{constant_value, shift_value, op_at}
use Rattle.affc_syntax.specs.ValueReading.{is_type_at, cast_of, behind_parens, complements, tilde, more_tildes, loaded, parens, plain, primary, shifted, more_shifts, combined, more_operations, more_operands, value_level, value_inside, value}
use Rattle.affc_syntax.proofs.Readers.{Shrinks, left_give, left_fail, left_then, past_shorter, on_test, loop_on, loop_end, loop_stop, all_left, closed_left, fails_then, less_left}
use Rattle.affc_syntax.proofs.IxReads.{inside_left, dims_left}

cast_left : (prelude : Bool) (end room : ℕ) → Shrinks (cast_of prelude end room)
cast_left prelude end room ts = left_then (inside prelude end room ts) _ (length ts) (inside_left prelude end room ts) (λ a. closed_left (codes ")") (cast a))

behind_left : (prelude : Bool) (end room : ℕ) (v : ValueDraft) (is_type : Bool) → Shrinks (behind_parens prelude end room v is_type)
behind_left prelude end room v true ts = on_test (this_mark (codes "(")) _ _ ts (λ _ us. cast_left prelude end room us) (left_give v ts (length ts) (omega arith))
behind_left prelude end room v false ts = left_give v ts (length ts) (omega arith)

tilde_left : (u : Unit {0}) (n : ℕ) → Shrinks (tilde u n)
tilde_left u n ts = left_give (suc n) ts (length ts) (omega arith)

tildes_left : (n : ℕ) → Shrinks (more_tildes n)
tildes_left = all_left (this_mark (codes "~")) tilde tilde_left

loaded_left : (prelude : Bool) (end room at : ℕ) (w : Name) → Shrinks (loaded prelude end room at w)
loaded_left prelude end room at w ts = left_then (dims prelude end room ts) _ (length ts) (dims_left prelude end room ts) (λ ds vs. left_give (load at w ds) vs (length vs) (omega arith))

module _ (prelude : Bool) (end room : ℕ) (inner : Reader Symbol ValueDraft) (h : Shrinks inner) where
  parens_left : Shrinks (parens prelude end room inner)
  parens_left us =
      left_then (inner us) _ (length us) (h us) (λ v vs.
      on_test (this_mark (codes ")")) _ _ vs (λ _ ws. behind_left prelude end room v (is_type_at (end - length us) v) ws) (left_fail (At vs) (length vs)))

  plain_left : Shrinks (plain prelude end room inner)
  plain_left ts =
      on_test constant_value _ _ ts (λ n us. left_give (constant n) us (length us) (omega arith))
      (on_test any_word _ _ ts (λ w us. loaded_left prelude end room (end - length ts) w us)
      (on_test (this_mark (codes "(")) _ _ ts (λ _ us. parens_left us) (left_fail (At ts) (length ts))))

  primary_left : Shrinks (primary prelude end room inner)
  primary_left ts =
      left_then (more_tildes zero ts) _ (length ts) (tildes_left zero ts) (λ n us.
      left_then (plain prelude end room inner us) _ (length us) (plain_left us) (λ v vs. left_give (complements n v) vs (length vs) (omega arith)))

shifted_left : (left : Bool) (a : ValueDraft) → Shrinks (shifted left a)
shifted_left left a ts = on_test shift_value _ _ ts (λ by us. left_give (shift left a by) us (length us) (omega arith)) (left_fail (At ts) (length ts))

module _ (below : Reader Symbol ValueDraft) (h : Shrinks below) where
  combined_left : (op : Op) (a : ValueDraft) → Shrinks (combined below op a)
  combined_left op a ts = left_then (below ts) _ (length ts) (h ts) (λ b vs. left_give (binary op a b) vs (length vs) (omega arith))

  operands_left : (n : ℕ) (a : ValueDraft) → Shrinks (more_operands n below a)
  operands_left n a ts = either_loop (n == 3)
    where
      either_loop : (b : Bool) → (v : ValueDraft) (us : List Symbol) → (if b then more_shifts else more_operations n below) a ts ≡ Ok (v, us) → length us ≤ length ts
      either_loop true = all_left shift_sign shifted shifted_left a ts
      either_loop false = all_left (op_at n) (combined below) combined_left a ts

level_left : (first : Reader Symbol ValueDraft) → Shrinks first → (n : ℕ) → Shrinks (value_level first n)
level_left first h zero ts = h ts
level_left first h (suc n) ts =
    left_then (value_level first n ts) (more_operands (suc n) (value_level first n)) (length ts) (level_left first h n ts) (operands_left (value_level first n) (level_left first h n) (suc n))

pub value_inside_left : (prelude : Bool) (end room : ℕ) → Shrinks (value_inside prelude end room)
unfolding value_inside
value_inside_left prelude end zero ts = left_fail Deep (length ts)
value_inside_left prelude end (suc room) ts = level_left (primary prelude end room (value_inside prelude end room)) (primary_left prelude end room (value_inside prelude end room) (value_inside_left prelude end room)) 6 ts

-- what the levels read, at a room
abbrev pub level_at : (prelude : Bool) (end room : ℕ) → ℕ → Reader Symbol ValueDraft
level_at prelude end room = value_level (primary prelude end room (value_inside prelude end room))

level_at_left : (prelude : Bool) (end room n : ℕ) → Shrinks (level_at prelude end room n)
level_at_left prelude end room = level_left (primary prelude end room (value_inside prelude end room)) (primary_left prelude end room (value_inside prelude end room) (value_inside_left prelude end room))

pub value_left : (prelude : Bool) (end room : ℕ) → Shrinks (value prelude end room)
value_left prelude end room = level_at_left prelude end room 6

-- ---- The levels, as the code reads them

pub level_on : (first : Reader Symbol ValueDraft) (level : ℕ) (ts : List Symbol) (a : ValueDraft) (us : List Symbol) → 1 ≤ level → value_level first (level - 1) ts ≡ Ok (a, us) → value_level first level ts ≡ more_operands level (value_level first (level - 1)) a us
level_on first zero ts a us some e = absurd (omega arith)
level_on first (suc n) ts a us some e =
    let back : suc n - 1 ≡ n = omega arith in
    ap (λ x. then_read x (more_operands (suc n) (value_level first n))) (subst (λ m. value_level first m ts ≡ Ok (a, us)) back e)
    ∙ ap (λ m. more_operands (suc n) (value_level first m) a us) (sym back)

pub no_shifts : (level : ℕ) (below : Reader Symbol ValueDraft) (a : ValueDraft) (ts : List Symbol) → level ≢ 3 → more_operands level below a ts ≡ more_operations level below a ts
no_shifts level below a ts ne =
    let other : (level == 3) ≡ false = grind (arith, nat_tests) in
    ap (λ b. (if b then more_shifts else more_operations level below) a ts) other

-- ---- The loops, as the code runs them

module _ (prelude : Bool) (end room level : ℕ) where
  abbrev turn : Op → ValueDraft → Reader Symbol ValueDraft
  turn = combined (level_at prelude end room (level - 1))

  turn_left : (op : Op) (a : ValueDraft) → Shrinks (turn op a)
  turn_left = combined_left (level_at prelude end room (level - 1)) (level_at_left prelude end room (level - 1))

  abbrev pub more : ValueDraft → Reader Symbol ValueDraft
  more = more_operations level (level_at prelude end room (level - 1))

  module _ (symbols : List code.Symbol) (left : ValueDraft) (n b : ℕ) (op : Op) (e : past (op_at level) (drop n (map seen symbols)) ≡ Some (op, drop b (map seen symbols))) where
    pub operations_err : (f : stop.Stop) → Fails (map seen symbols) f (level_at prelude end room (level - 1) (drop b (map seen symbols))) → Fails (map seen symbols) f (more left (drop n (map seen symbols)))
    operations_err f q = loop_stop (op_at level) turn turn_left (map seen symbols) left _ op _ f e (fails_then (map seen symbols) f _ _ q)

    turn_is : (right : ValueDraft) (r : ℕ) → level_at prelude end room (level - 1) (drop b (map seen symbols)) ≡ Ok (right, drop r (map seen symbols)) → turn op left (drop b (map seen symbols)) ≡ Ok (binary op left right, drop r (map seen symbols))
    turn_is right r q = ap (λ x. then_read x (λ b vs. Ok (binary op left b, vs))) q

    pub operations_on : (right x : ValueDraft) (r : ℕ) → level_at prelude end room (level - 1) (drop b (map seen symbols)) ≡ Ok (right, drop r (map seen symbols)) → x ≡ binary op left right → more left (drop n (map seen symbols)) ≡ more x (drop r (map seen symbols))
    operations_on right x r q is = loop_on (op_at level) turn turn_left left _ op _ (binary op left right) _ e (turn_is right r q) ∙ ap (λ v. more v (drop r (map seen symbols))) (sym is)

    pub operations_less : (right : ValueDraft) (r : ℕ) → level_at prelude end room (level - 1) (drop b (map seen symbols)) ≡ Ok (right, drop r (map seen symbols)) → length symbols - r < length symbols - n
    operations_less right r q = less_left symbols n b r (past_shorter (op_at level) _ op _ e) (turn_left op left _ (binary op left right) _ (turn_is right r q))

  pub operations_end : (left : ValueDraft) (ts : List Symbol) → past (op_at level) ts ≡ None → more left ts ≡ Ok (left, ts)
  operations_end left ts e = loop_end (op_at level) turn turn_left left ts e

module _ (symbols : List code.Symbol) (left : ValueDraft) (n b : ℕ) (k : Bool) (e : past shift_sign (drop n (map seen symbols)) ≡ Some (k, drop b (map seen symbols))) where
  pub shifts_err : (f : stop.Stop) → Fails (map seen symbols) f (shifted k left (drop b (map seen symbols))) → Fails (map seen symbols) f (more_shifts left (drop n (map seen symbols)))
  shifts_err f q = loop_stop shift_sign shifted shifted_left (map seen symbols) left _ k _ f e q

  pub shifts_on : (x : ValueDraft) (r : ℕ) → shifted k left (drop b (map seen symbols)) ≡ Ok (x, drop r (map seen symbols)) → more_shifts left (drop n (map seen symbols)) ≡ more_shifts x (drop r (map seen symbols))
  shifts_on x r q = loop_on shift_sign shifted shifted_left left _ k _ x _ e q

  pub shifts_less : (x : ValueDraft) (r : ℕ) → shifted k left (drop b (map seen symbols)) ≡ Ok (x, drop r (map seen symbols)) → length symbols - r < length symbols - n
  shifts_less x r q = less_left symbols n b r (past_shorter shift_sign _ k _ e) (shifted_left k left _ x _ q)

pub shifts_end : (left : ValueDraft) (ts : List Symbol) → past shift_sign ts ≡ None → more_shifts left ts ≡ Ok (left, ts)
shifts_end left ts e = loop_end shift_sign shifted shifted_left left ts e

pub tildes_on : (count : ℕ) (ts us : List Symbol) → past (this_mark (codes "~")) ts ≡ Some (tt, us) → more_tildes count ts ≡ more_tildes (count + 1) us
tildes_on count ts us e = loop_on (this_mark (codes "~")) tilde tilde_left count ts tt us (suc count) us e refl ∙ ap (λ n. more_tildes n us) (sym (add-one count))

pub tildes_end : (count : ℕ) (ts : List Symbol) → past (this_mark (codes "~")) ts ≡ None → more_tildes count ts ≡ Ok (count, ts)
tildes_end count ts e = loop_end (this_mark (codes "~")) tilde tilde_left count ts e
