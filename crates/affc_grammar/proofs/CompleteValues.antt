-- Values that are spelled so are read.
use Rattle.std.proofs.Common.{◌≡◌, ℕ, zero, suc, Bool, true, false, ◌==◌, List, [], ◌∷◌, ◌++◌, Some, refl, sym, subst, codes, IsTrue, arith}
use Rattle.std.proofs.lemmas.Bool.{eqb-true}
use Rattle.affc_ast.specs.declared.tree.Op.{Op}
use Rattle.affc_ast.specs.declared.tree.Op.TheVariants.{Add, Sub, Mul, And, Or, Xor}
use Rattle.affc_grammar.specs.Grammar as g
use Rattle.affc_grammar.specs.Grammar.{Symbol, Name, word, number, mark, ValueText, ix_symbols, dims_symbols, value_symbols, op_mark, shift_mark, level_of}
use Rattle.affc_grammar.specs.Reader.{Reader, give, after, all, IsReader}
use Rattle.affc_grammar.specs.Reading.{this_mark, is_type_name, read_parens, read_plain, complements, read_primary, op_of, op_more, shift_sign, shift_more, read_operands, read_level, value_inside, read_value}
use Rattle.affc_grammar.proofs.Tests.{op_test, shift_test, shift_number_test}
use Rattle.affc_grammar.proofs.Rules.{tilde_rule, op_rule, shift_rule, level_rule, primary_rule, value_inside_rule}
use Rattle.affc_grammar.proofs.Done.{Gets, NotNext, gets_give, gets_deep, gets_after, gets_on, gets_other, gets_end, gets_turn, gets_turn_then}
use Rattle.affc_grammar.proofs.Complete.{regroup, ix_inside_gets, dims_gets}

abbrev primary_of : (calls : Bool) → ℕ → Reader Symbol (ValueText calls 0)
primary_of calls room = read_primary calls room (value_inside calls room)

-- further operands of level n + 1, behind the first ones
abbrev loop : (calls : Bool) → (room n : ℕ) → ValueText calls (suc n) → Reader Symbol (ValueText calls (suc n))
loop calls room (suc (suc zero)) = all shift_sign shift_more
loop calls room n = all (op_of n) (op_more n (read_level (primary_of calls room) n))

abbrev pub NotNextAt : ℕ → List Symbol → Type 0
NotNextAt (suc (suc zero)) rest = NotNext shift_sign rest
NotNextAt n rest = NotNext (op_of n) rest

-- what doesn't go on with a value of the level
abbrev pub EndsLevel : ℕ → List Symbol → Type 0
EndsLevel zero rest = NotNext (this_mark (codes "[")) rest × NotNext (this_mark (codes "(")) rest
EndsLevel (suc n) rest = EndsLevel n rest × NotNextAt n rest

loop_end : (calls : Bool) (room n : ℕ) (a : ValueText calls (suc n)) (rest : List Symbol) → NotNextAt n rest → Gets (loop calls room n a) rest a rest
loop_end calls room zero a rest e = gets_end _ _ e
loop_end calls room (suc zero) a rest e = gets_end _ _ e
loop_end calls room (suc (suc zero)) a rest e = gets_end _ _ e
loop_end calls room (suc (suc (suc n))) a rest e = gets_end _ _ e

operands_loop : (calls : Bool) (room n : ℕ) (a : ValueText calls n) (rest : List Symbol) (d : ValueText calls (suc n)) (end : List Symbol) → Gets (loop calls room n (g.operand a)) rest d end → Gets (read_operands n (read_level (primary_of calls room) n) a) rest d end
operands_loop calls room zero a rest d end h = h
operands_loop calls room (suc zero) a rest d end h = h
operands_loop calls room (suc (suc zero)) a rest d end h = h
operands_loop calls room (suc (suc (suc n))) a rest d end h = h

op_reader : (calls : Bool) (room n : ℕ) (x : Symbol) (k : (op : Op) × IsTrue (level_of op == suc n)) → op_of n x ≡ Some k → (a : ValueText calls (suc n)) → IsReader (op_more n (read_level (primary_of calls room) n) k a)
op_reader calls room n x k q a = (op_rule n (level_rule (primary_rule (value_inside_rule calls room)) n) k a).reader

shift_reader : (calls : Bool) (x : Symbol) (k : Bool) → shift_sign x ≡ Some k → (a : ValueText calls 3) → IsReader (shift_more k a)
shift_reader calls x k q a = (shift_rule {room = 0} k a).reader

tilde_reader : (x : Symbol) (k : Unit {0}) → this_mark (codes "~") x ≡ Some k → (n : ℕ) → IsReader {T = Symbol} (give (suc n))
tilde_reader x k q n = (tilde_rule {room = 0} k n).reader

no_third_op : (op : Op) → IsTrue (level_of op == 3) → ⊥
no_third_op Add e = cc
no_third_op Sub e = cc
no_third_op Mul e = cc
no_third_op And e = cc
no_third_op Or e = cc
no_third_op Xor e = cc

loop_turn : (calls : Bool) (room n : ℕ) (a : ValueText calls (suc n)) (op : Op) (k : IsTrue (level_of op == suc n)) (b : ValueText calls n) (ts rest : List Symbol) (d : ValueText calls (suc n)) (end : List Symbol)
    → Gets (read_level (primary_of calls room) n) ts b rest → Gets (loop calls room n (g.binary a op k b)) rest d end → Gets (loop calls room n a) (mark (op_mark op) ∷ ts) d end
loop_turn calls room zero a op k b ts rest d end t h = gets_turn (op_reader calls room zero) ((op_test zero).passes (op, k)) (gets_after _ t gets_give) h
loop_turn calls room (suc zero) a op k b ts rest d end t h = gets_turn (op_reader calls room 1) ((op_test 1).passes (op, k)) (gets_after _ t gets_give) h
loop_turn calls room (suc (suc zero)) a op k b ts rest d end t h = absurd (no_third_op op k)
loop_turn calls room (suc (suc (suc n))) a op k b ts rest d end t h = gets_turn (op_reader calls room (suc (suc (suc n)))) ((op_test (suc (suc (suc n)))).passes (op, k)) (gets_after _ t gets_give) h

op_ends : (op : Op) (n : ℕ) → level_of op ≡ suc n → (ts : List Symbol) → EndsLevel n (mark (op_mark op) ∷ ts)
op_ends Mul n e ts = let same : n ≡ 0 = omega arith in subst (λ n. EndsLevel n (mark (codes "*") ∷ ts)) (sym same) (refl, refl)
op_ends Add n e ts = let same : n ≡ 1 = omega arith in subst (λ n. EndsLevel n (mark (codes "+") ∷ ts)) (sym same) ((refl, refl), refl)
op_ends Sub n e ts = let same : n ≡ 1 = omega arith in subst (λ n. EndsLevel n (mark (codes "-") ∷ ts)) (sym same) ((refl, refl), refl)
op_ends And n e ts = let same : n ≡ 3 = omega arith in subst (λ n. EndsLevel n (mark (codes "&") ∷ ts)) (sym same) ((((refl, refl), refl), refl), refl)
op_ends Xor n e ts = let same : n ≡ 4 = omega arith in subst (λ n. EndsLevel n (mark (codes "^") ∷ ts)) (sym same) (((((refl, refl), refl), refl), refl), refl)
op_ends Or n e ts = let same : n ≡ 5 = omega arith in subst (λ n. EndsLevel n (mark (codes "|") ∷ ts)) (sym same) ((((((refl, refl), refl), refl), refl), refl), refl)

shift_ends : (left : Bool) (ts : List Symbol) → EndsLevel 2 (mark (shift_mark left) ∷ ts)
shift_ends true ts = (((refl, refl), refl), refl)
shift_ends false ts = (((refl, refl), refl), refl)

value_room : (calls : Bool) (room : ℕ) {ts rest : List Symbol} {v : ValueText calls 6} → ((r : ℕ) → Gets (read_level (primary_of calls r) 6) ts v rest) → Gets (value_inside calls room) ts v rest
unfolding value_inside
value_room calls zero h = gets_deep
value_room calls (suc room) h = h room

-- `uint64_t`, as a value
abbrev type_value : (calls : Bool) → ValueText calls 6
type_value calls = g.operand (g.operand (g.operand (g.operand (g.operand (g.operand (g.load (codes "uint64_t") g.no_dims))))))

type_gets : (calls : Bool) (room : ℕ) (ts : List Symbol) → Gets (value_inside calls room) (word (codes "uint64_t") ∷ mark (codes ")") ∷ ts) (type_value calls) (mark (codes ")") ∷ ts)
type_gets calls room ts =
    value_room calls room (λ r.
    gets_after _ (gets_after _ (gets_after _ (gets_after _ (gets_after _ (gets_after _
    (gets_after _ (gets_end _ _ refl) (gets_after _ (gets_other _ _ refl (gets_on _ _ _ refl (gets_after _ (dims_gets calls g.no_dims r (mark (codes ")") ∷ ts) refl) gets_give))) gets_give))
    (gets_end _ _ refl)) (gets_end _ _ refl)) (gets_end _ _ refl)) (gets_end _ _ refl)) (gets_end _ _ refl)) (gets_end _ _ refl))

parens_gets : (calls : Bool) (room : ℕ) (v : ValueText calls 6) (b : Bool) (rest : List Symbol) → NotNext (this_mark (codes "(")) rest → Gets (read_parens calls room v b) rest (g.parens v) rest
parens_gets calls room v true rest e = gets_other _ _ e gets_give
parens_gets calls room v false rest e = gets_give

-- what is read at a level, whatever follows: for v1 behind any number of "~", for a looser level with what its loop goes on to read
abbrev Opens : (calls : Bool) (n : ℕ) → ValueText calls n → Type 0
Opens calls zero v = (room m : ℕ) (rest : List Symbol) → EndsLevel 0 rest → Gets (after (all (this_mark (codes "~")) (λ _ n. give (suc n)) m) (λ n. after (read_plain calls room (value_inside calls room)) (λ v. give (complements n v)))) (value_symbols v ++ rest) (complements m v) rest
Opens calls (suc n) v = (room : ℕ) (rest : List Symbol) (d : ValueText calls (suc n)) (end : List Symbol) → EndsLevel n rest → Gets (loop calls room n v) rest d end → Gets (read_level (primary_of calls room) (suc n)) (value_symbols v ++ rest) d end

level_gets : (calls : Bool) (n : ℕ) (v : ValueText calls n) → Opens calls n v → (room : ℕ) (rest : List Symbol) → EndsLevel n rest → Gets (read_level (primary_of calls room) n) (value_symbols v ++ rest) v rest
level_gets calls zero v h room rest e = h room 0 rest e
level_gets calls (suc n) v h room rest e = h room rest v rest e.0 (loop_end calls room n v rest e.1)

opens : (calls : Bool) {n : ℕ} (v : ValueText calls n) → Opens calls n v
opens calls (g.complement v) = λ room m rest e. gets_turn_then tilde_reader refl gets_give _ (opens calls v room (suc m) rest e)
opens calls (g.load w ds) = λ room m rest e. gets_after _ (gets_end _ _ refl) (gets_after _ (gets_other _ _ refl (gets_on _ _ _ refl (gets_after _ (dims_gets calls ds room rest e.0) gets_give))) gets_give)
opens calls (g.constant bytes) = λ room m rest e. gets_after _ (gets_end _ _ refl) (gets_after _ (gets_on _ _ _ refl gets_give) gets_give)
opens calls (g.parens v) = λ room m rest e.
    gets_after _ (gets_end _ _ refl) (gets_after _ (gets_other _ _ refl (gets_other _ _ refl (gets_on _ _ _ refl (gets_after _
    (regroup (value_symbols v) (mark (codes ")") ∷ []) rest (value_room calls room (λ r. level_gets calls 6 v (opens calls v) r (mark (codes ")") ∷ rest) (((((((refl, refl), refl), refl), refl), refl), refl), refl))))
    (gets_on _ _ _ refl (parens_gets calls room v (is_type_name v) rest e.1)))))) gets_give)
opens calls (g.cast a) = λ room m rest e.
    gets_after _ (gets_end _ _ refl) (gets_after _ (gets_other _ _ refl (gets_other _ _ refl (gets_on _ _ _ refl (gets_after _ (type_gets calls room (mark (codes "(") ∷ ((ix_symbols a ++ mark (codes ")") ∷ []) ++ rest)))
    (gets_on _ _ _ refl (gets_on _ _ _ refl (gets_after _ (regroup (ix_symbols a) (mark (codes ")") ∷ []) rest (ix_inside_gets calls a room (mark (codes ")") ∷ rest) (refl, refl, refl))) (gets_on _ _ _ refl gets_give)))))))) gets_give)
opens calls (g.operand {n = n} v) = λ room rest d end e h. gets_after _ (level_gets calls n v (opens calls v) room rest e) (operands_loop calls room n v rest d end h)
opens calls (g.binary {n = n} a op k b) = λ room rest d end e h.
    regroup (value_symbols a) (mark (op_mark op) ∷ value_symbols b) rest
    (opens calls a room (mark (op_mark op) ∷ (value_symbols b ++ rest)) d end (op_ends op n (eqb-true (level_of op) (suc n) k) (value_symbols b ++ rest))
    (loop_turn calls room n a op k b (value_symbols b ++ rest) rest d end (level_gets calls n b (opens calls b) room rest e) h))
opens calls (g.shift v left by k) = λ room rest d end e h.
    regroup (value_symbols v) (mark (shift_mark left) ∷ number by ∷ []) rest
    (opens calls v room (mark (shift_mark left) ∷ number by ∷ rest) d end (shift_ends left (number by ∷ rest))
    (gets_turn (shift_reader calls) (shift_test.passes left) (gets_on _ _ _ (shift_number_test.passes (by, k)) gets_give) h))

pub value_gets : (calls : Bool) (v : ValueText calls 6) (room : ℕ) (rest : List Symbol) → EndsLevel 6 rest → Gets (read_value calls room) (value_symbols v ++ rest) v rest
value_gets calls v room rest e = level_gets calls 6 v (opens calls v) room rest e
