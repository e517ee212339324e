-- What is spelled so is read: of each rule, before any tokens that do not go on with it.
use Rattle.std.proofs.Common.{◌≡◌, ℕ, zero, suc, Bool, true, false, List, [], ◌∷◌, ◌++◌, Option, Some, None, refl, sym, subst, codes, append_assoc}
use mathlib.Core.Bool.{Bool-set}
use Rattle.affc_ast.specs.declared.tree.Rel.{Rel}
use Rattle.affc_ast.specs.declared.tree.Rel.TheVariants.{Less, LessEqual, Greater, GreaterEqual, Equal, NotEqual}
use Rattle.affc_grammar.specs.Grammar as g
use Rattle.affc_grammar.specs.Grammar.{Symbol, Name, Choice, Rounding, word, number, mark, is_divisor, IxText, TermText, FactorText, AtomText, DimsText, CondText, AllText, PrimText, ix_symbols, term_symbols, factor_symbols, atom_symbols, dims_symbols, dim_symbols, cond_symbols, all_symbols, prim_symbols, rel_mark, zero_mark, choice_name, rounding_name}
use Rattle.affc_grammar.specs.Reader.{Reader, give, after, all, inside, IsReader}
use Rattle.affc_grammar.specs.Reading.{this_mark, choose, Callee, of_choice, of_rounding, callee_name, callees, read_call, read_called, read_named, read_atom, read_factor, times_more, read_term, sum_sign, sum_more, read_terms, read_sum, ix_inside, dims_more, read_dims, Half, condition, expression, Mixed, conditions, read_compared, read_half, and_more, or_more, read_ors, read_half_more, mixed_inside, read_cond}
use Rattle.affc_grammar.proofs.Tests.{divisor_test, rel_test, zero_test, callee_passes}
use Rattle.affc_grammar.proofs.Rules.{ix_inside_rule, times_rule, plus_rule, dim_rule, and_rule, or_rule, mixed_inside_rule}
use Rattle.affc_grammar.proofs.Done.{Gets, NotNext, gets_give, gets_deep, gets_after, gets_on, gets_other, gets_end, gets_turn, gets_turn_then, gets_both}

pub regroup : {A : Type 0} {p : Reader Symbol A} {a : A} {rest : List Symbol} (xs ys zs : List Symbol) → Gets p (xs ++ (ys ++ zs)) a rest → Gets p ((xs ++ ys) ++ zs) a rest
regroup {A} {p} {a} {rest} xs ys zs h = subst (λ l. Gets p l a rest) (sym (append_assoc xs ys zs)) h

-- what doesn't go on with a factor, a term, an expression
abbrev pub EndsFactor : List Symbol → Type 0
EndsFactor rest = NotNext (this_mark (codes "(")) rest

abbrev pub EndsTerm : List Symbol → Type 0
EndsTerm rest = NotNext (this_mark (codes "*")) rest × EndsFactor rest

abbrev pub EndsIx : List Symbol → Type 0
EndsIx rest = NotNext sum_sign rest × NotNext (this_mark (codes "*")) rest × EndsFactor rest

-- ---- Whole-number expressions

called_on : (room : ℕ) (f : Callee) {ts rest : List Symbol} {a : AtomText true} → Gets (read_call (ix_inside true room) f) ts a rest → Gets (read_called (ix_inside true room) (callee_name f) (choose callees (callee_name f))) (mark (codes "(") ∷ ts) a rest
called_on room f {ts} {rest} {a} h = subst (λ o. Gets (read_called (ix_inside true room) (callee_name f) o) (mark (codes "(") ∷ ts) a rest) (sym (callee_passes f)) (gets_on _ _ _ refl h)

called_off : (room : ℕ) (w : Name) (o : Option Callee) (rest : List Symbol) → EndsFactor rest → Gets (read_called (ix_inside true room) w o) rest (g.name w) rest
called_off room w None rest e = gets_give
called_off room w (Some f) rest e = gets_other _ _ e gets_give

named_off : (calls : Bool) (room : ℕ) (w : Name) (rest : List Symbol) → EndsFactor rest → Gets (read_named calls (ix_inside calls room) w) rest (g.name w) rest
named_off true room w rest e = called_off room w (choose callees w) rest e
named_off false room w rest e = gets_give

inside_gets : (calls : Bool) (room : ℕ) {ts rest : List Symbol} {c : IxText calls} → ((r : ℕ) → Gets (read_sum calls (ix_inside calls r)) ts c rest) → Gets (ix_inside calls room) ts c rest
unfolding ix_inside
inside_gets calls zero h = gets_deep
inside_gets calls (suc room) h = h room

not_minus : {calls : Bool} (a : AtomText calls) (rest : List Symbol) → NotNext (this_mark (codes "-")) (atom_symbols a ++ rest)
not_minus (g.literal digits) rest = refl
not_minus (g.name w) rest = refl
not_minus (g.grouped a) rest = refl
not_minus (g.chosen h f a b) rest = refl
not_minus (g.divided h f a by k) rest = refl

times_reader : (calls : Bool) (room : ℕ) (x : Symbol) (k : Unit {0}) → this_mark (codes "*") x ≡ Some k → (a : TermText calls) → IsReader (times_more calls (ix_inside calls room) k a)
times_reader calls room x k q a = (times_rule (ix_inside_rule calls room) k a).reader

sum_reader : (calls : Bool) (room : ℕ) (x : Symbol) (k : Bool) → sum_sign x ≡ Some k → (a : IxText calls) → IsReader (sum_more calls (ix_inside calls room) k a)
sum_reader calls room x k q a = (plus_rule (ix_inside_rule calls room) k a).reader

mutual
  pub ix_opens : (calls : Bool) (c : IxText calls) (room : ℕ) (rest : List Symbol) (d : IxText calls) (end : List Symbol) → EndsTerm rest → Gets (all sum_sign (sum_more calls (ix_inside calls room)) c) rest d end → Gets (read_sum calls (ix_inside calls room)) (ix_symbols c ++ rest) d end
  ix_opens calls (g.term a) room rest d end e h = gets_after _ (term_opens calls a room rest a rest e.1 (gets_end _ _ e.0)) h
  ix_opens calls (g.plus a b) room rest d end e h =
      regroup (ix_symbols a) (mark (codes "+") ∷ term_symbols b) rest
      (ix_opens calls a room (mark (codes "+") ∷ (term_symbols b ++ rest)) d end (refl, refl)
      (gets_turn (sum_reader calls room) refl (gets_after _ (term_opens calls b room rest b rest e.1 (gets_end _ _ e.0)) gets_give) h))
  ix_opens calls (g.minus a b) room rest d end e h =
      regroup (ix_symbols a) (mark (codes "-") ∷ term_symbols b) rest
      (ix_opens calls a room (mark (codes "-") ∷ (term_symbols b ++ rest)) d end (refl, refl)
      (gets_turn (sum_reader calls room) refl (gets_after _ (term_opens calls b room rest b rest e.1 (gets_end _ _ e.0)) gets_give) h))

  pub term_opens : (calls : Bool) (c : TermText calls) (room : ℕ) (rest : List Symbol) (d : TermText calls) (end : List Symbol) → EndsFactor rest → Gets (all (this_mark (codes "*")) (times_more calls (ix_inside calls room)) c) rest d end → Gets (read_term calls (ix_inside calls room)) (term_symbols c ++ rest) d end
  term_opens calls (g.factor a) room rest d end e h = gets_after _ (factor_gets calls a room rest e) h
  term_opens calls (g.times a b) room rest d end e h =
      regroup (term_symbols a) (mark (codes "*") ∷ factor_symbols b) rest
      (term_opens calls a room (mark (codes "*") ∷ (factor_symbols b ++ rest)) d end refl
      (gets_turn (times_reader calls room) refl (gets_after _ (factor_gets calls b room rest e) gets_give) h))

  pub factor_gets : (calls : Bool) (c : FactorText calls) (room : ℕ) (rest : List Symbol) → EndsFactor rest → Gets (read_factor calls (ix_inside calls room)) (factor_symbols c ++ rest) c rest
  factor_gets calls (g.atom a) room rest e = gets_other _ _ (not_minus a rest) (gets_after _ (atom_gets calls a room rest e) gets_give)
  factor_gets calls (g.negated a) room rest e = gets_on _ _ _ refl (gets_after _ (atom_gets calls a room rest e) gets_give)

  pub atom_gets : (calls : Bool) (c : AtomText calls) (room : ℕ) (rest : List Symbol) → EndsFactor rest → Gets (read_atom calls (ix_inside calls room)) (atom_symbols c ++ rest) c rest
  atom_gets calls (g.literal digits) room rest e = gets_on _ _ _ refl gets_give
  atom_gets calls (g.name w) room rest e = gets_other _ _ refl (gets_on _ _ _ refl (named_off calls room w rest e))
  atom_gets calls (g.grouped a) room rest e =
      gets_other _ _ refl (gets_other _ _ refl (gets_on _ _ _ refl (gets_after _
      (regroup (ix_symbols a) (mark (codes ")") ∷ []) rest (inside_gets calls room (λ r. ix_opens calls a r (mark (codes ")") ∷ rest) a (mark (codes ")") ∷ rest) (refl, refl) (gets_end _ _ refl))))
      (gets_on _ _ _ refl gets_give))))
  atom_gets true (g.chosen h f a b) room rest e =
      subst (λ h. Gets (read_atom true (ix_inside true room)) (atom_symbols (g.chosen h f a b) ++ rest) (g.chosen h f a b) rest) (Bool-set true true refl h)
      (gets_other _ _ refl (gets_on _ _ _ refl (called_on room (of_choice f) (gets_after _
      (regroup (ix_symbols a) (mark (codes ",") ∷ (ix_symbols b ++ mark (codes ")") ∷ [])) rest (inside_gets true room (λ r. ix_opens true a r _ a _ (refl, refl) (gets_end _ _ refl))))
      (gets_on _ _ _ refl (gets_after _
      (regroup (ix_symbols b) (mark (codes ")") ∷ []) rest (inside_gets true room (λ r. ix_opens true b r _ b _ (refl, refl) (gets_end _ _ refl))))
      (gets_on _ _ _ refl gets_give)))))))
  atom_gets true (g.divided h f a by k) room rest e =
      subst (λ h. Gets (read_atom true (ix_inside true room)) (atom_symbols (g.divided h f a by k) ++ rest) (g.divided h f a by k) rest) (Bool-set true true refl h)
      (gets_other _ _ refl (gets_on _ _ _ refl (called_on room (of_rounding f) (gets_after _
      (regroup (ix_symbols a) (mark (codes ",") ∷ number by ∷ mark (codes ")") ∷ []) rest (inside_gets true room (λ r. ix_opens true a r _ a _ (refl, refl) (gets_end _ _ refl))))
      (gets_on _ _ _ refl (gets_on _ _ _ (divisor_test.passes (by, k)) (gets_on _ _ _ refl gets_give)))))))
  atom_gets false (g.chosen h f a b) room rest e = absurd (cc)
  atom_gets false (g.divided h f a by k) room rest e = absurd (cc)

pub sum_gets : (calls : Bool) (c : IxText calls) (room : ℕ) (rest : List Symbol) → EndsIx rest → Gets (read_sum calls (ix_inside calls room)) (ix_symbols c ++ rest) c rest
sum_gets calls c room rest e = ix_opens calls c room rest c rest (e.1, e.2) (gets_end _ _ e.0)

pub ix_inside_gets : (calls : Bool) (c : IxText calls) (room : ℕ) (rest : List Symbol) → EndsIx rest → Gets (ix_inside calls room) (ix_symbols c ++ rest) c rest
ix_inside_gets calls c room rest e = inside_gets calls room (λ r. sum_gets calls c r rest e)

pub dims_reader : (calls : Bool) (room : ℕ) (x : Symbol) (k : Unit {0}) → this_mark (codes "[") x ≡ Some k → (ds : DimsText calls) → IsReader (dims_more calls room k ds)
dims_reader calls room x k q ds = (dim_rule calls room k ds).reader

dims_open : (calls : Bool) (c : DimsText calls) (room : ℕ) (rest : List Symbol) (d : DimsText calls) (end : List Symbol) → Gets (all (this_mark (codes "[")) (dims_more calls room) c) rest d end → Gets (read_dims calls room) (dims_symbols c ++ rest) d end
dims_open calls g.no_dims room rest d end h = h
dims_open calls (g.and_dim ds a) room rest d end h =
    regroup (dims_symbols ds) (dim_symbols a) rest
    (dims_open calls ds room (mark (codes "[") ∷ ((ix_symbols a ++ mark (codes "]") ∷ []) ++ rest)) d end
    (gets_turn (dims_reader calls room) refl (gets_after _ (regroup (ix_symbols a) (mark (codes "]") ∷ []) rest (ix_inside_gets calls a room (mark (codes "]") ∷ rest) (refl, refl, refl))) (gets_on _ _ _ refl gets_give)) h))

pub dims_gets : (calls : Bool) (c : DimsText calls) (room : ℕ) (rest : List Symbol) → NotNext (this_mark (codes "[")) rest → Gets (read_dims calls room) (dims_symbols c ++ rest) c rest
dims_gets calls c room rest e = dims_open calls c room rest c rest (gets_end _ _ e)

-- ---- Conditions

rel_ends : (rel : Rel) (ts : List Symbol) → EndsIx (mark (rel_mark rel) ∷ ts)
rel_ends Less ts = (refl, refl, refl)
rel_ends LessEqual ts = (refl, refl, refl)
rel_ends Greater ts = (refl, refl, refl)
rel_ends GreaterEqual ts = (refl, refl, refl)
rel_ends Equal ts = (refl, refl, refl)
rel_ends NotEqual ts = (refl, refl, refl)

abbrev half_of : (calls wide : Bool) → ℕ → Reader Symbol (Half calls wide)
half_of calls wide room = read_half calls wide (ix_inside calls room) (mixed_inside calls wide room)

abbrev half_more : (calls wide : Bool) → ℕ → Half calls wide → Reader Symbol (Mixed calls wide)
half_more calls wide room = read_half_more calls wide (ix_inside calls room) (mixed_inside calls wide room)

mixed_gets : (calls wide : Bool) (room : ℕ) {ts rest : List Symbol} {m : Mixed calls wide} → ((r : ℕ) → Gets (after (half_of calls wide r) (half_more calls wide r)) ts m rest) → Gets (mixed_inside calls wide room) ts m rest
unfolding mixed_inside
mixed_gets calls wide zero h = gets_deep
mixed_gets calls wide (suc room) h = h room

-- an expression in parentheses
expression_gets : (calls wide : Bool) (room : ℕ) (a : IxText calls) (rest : List Symbol) → Gets (read_compared calls wide (ix_inside calls room) a) (mark (codes ")") ∷ rest) (expression a) (mark (codes ")") ∷ rest)
expression_gets calls true room (g.term t) rest = gets_other _ _ refl (gets_other _ _ refl gets_give)
expression_gets calls true room (g.plus a b) rest = gets_other _ _ refl gets_give
expression_gets calls true room (g.minus a b) rest = gets_other _ _ refl gets_give
expression_gets calls false room a rest = gets_other _ _ refl gets_give

-- behind an expression that is read by halves: its further factors, its further terms, and what follows
abbrev more_terms : (calls wide : Bool) → ℕ → TermText calls → Reader Symbol (Half calls wide)
more_terms calls wide room t = after (read_terms calls (ix_inside calls room) t) (read_compared calls wide (ix_inside calls room))

abbrev more_factors : (calls wide : Bool) → ℕ → TermText calls → Reader Symbol (Half calls wide)
more_factors calls wide room t = after (all (this_mark (codes "*")) (times_more calls (ix_inside calls room)) t) (more_terms calls wide room)

plain_half : (calls wide : Bool) (a : FactorText calls) (room : ℕ) (rest : List Symbol) (d : Half calls wide) (end : List Symbol) → NotNext (this_mark (codes "(")) (factor_symbols a ++ rest) → EndsFactor rest → Gets (more_factors calls wide room (g.factor a)) rest d end → Gets (half_of calls wide room) (factor_symbols a ++ rest) d end
plain_half calls wide a room rest d end n e h = gets_other _ _ n (gets_both _ _ _ (gets_both _ _ _ (gets_after _ (factor_gets calls a room rest e) h)))

mutual
  half_opens : (calls wide : Bool) (c : IxText calls) (room : ℕ) (rest : List Symbol) (d : Half calls wide) (end : List Symbol) → EndsTerm rest → Gets (after (all sum_sign (sum_more calls (ix_inside calls room)) c) (read_compared calls wide (ix_inside calls room))) rest d end → Gets (half_of calls wide room) (ix_symbols c ++ rest) d end
  half_opens calls wide (g.term a) room rest d end e h = half_term calls wide a room rest d end e.1 (gets_after _ (gets_end _ _ e.0) h)
  half_opens calls wide (g.plus a b) room rest d end e h =
      regroup (ix_symbols a) (mark (codes "+") ∷ term_symbols b) rest
      (half_opens calls wide a room (mark (codes "+") ∷ (term_symbols b ++ rest)) d end (refl, refl)
      (gets_turn_then (sum_reader calls room) refl (gets_after _ (term_opens calls b room rest b rest e.1 (gets_end _ _ e.0)) gets_give) _ h))
  half_opens calls wide (g.minus a b) room rest d end e h =
      regroup (ix_symbols a) (mark (codes "-") ∷ term_symbols b) rest
      (half_opens calls wide a room (mark (codes "-") ∷ (term_symbols b ++ rest)) d end (refl, refl)
      (gets_turn_then (sum_reader calls room) refl (gets_after _ (term_opens calls b room rest b rest e.1 (gets_end _ _ e.0)) gets_give) _ h))

  half_term : (calls wide : Bool) (c : TermText calls) (room : ℕ) (rest : List Symbol) (d : Half calls wide) (end : List Symbol) → EndsFactor rest → Gets (more_factors calls wide room c) rest d end → Gets (half_of calls wide room) (term_symbols c ++ rest) d end
  half_term calls wide (g.factor a) room rest d end e h = half_factor calls wide a room rest d end e h
  half_term calls wide (g.times a b) room rest d end e h =
      regroup (term_symbols a) (mark (codes "*") ∷ factor_symbols b) rest
      (half_term calls wide a room (mark (codes "*") ∷ (factor_symbols b ++ rest)) d end refl
      (gets_turn_then (times_reader calls room) refl (gets_after _ (factor_gets calls b room rest e) gets_give) _ h))

  half_factor : (calls wide : Bool) (c : FactorText calls) (room : ℕ) (rest : List Symbol) (d : Half calls wide) (end : List Symbol) → EndsFactor rest → Gets (more_factors calls wide room (g.factor c)) rest d end → Gets (half_of calls wide room) (factor_symbols c ++ rest) d end
  half_factor calls wide (g.negated a) room rest d end e h = plain_half calls wide (g.negated a) room rest d end refl e h
  half_factor calls wide (g.atom (g.literal digits)) room rest d end e h = plain_half calls wide (g.atom (g.literal digits)) room rest d end refl e h
  half_factor calls wide (g.atom (g.name w)) room rest d end e h = plain_half calls wide (g.atom (g.name w)) room rest d end refl e h
  half_factor calls wide (g.atom (g.chosen k f a b)) room rest d end e h = plain_half calls wide (g.atom (g.chosen k f a b)) room rest d end refl e h
  half_factor calls wide (g.atom (g.divided k f a by p)) room rest d end e h = plain_half calls wide (g.atom (g.divided k f a by p)) room rest d end refl e h
  half_factor calls wide (g.atom (g.grouped a)) room rest d end e h =
      gets_on _ _ _ refl (gets_after _
      (regroup (ix_symbols a) (mark (codes ")") ∷ []) rest (mixed_gets calls wide room (λ r. gets_after _ (half_opens calls wide a r (mark (codes ")") ∷ rest) (expression a) (mark (codes ")") ∷ rest) (refl, refl) (gets_after _ (gets_end _ _ refl) (expression_gets calls wide r a rest))) gets_give)))
      (gets_on _ _ _ refl h))

ands_reader : (calls wide : Bool) (room : ℕ) (x : Symbol) (k : Unit {0}) → this_mark (codes "&&") x ≡ Some k → (a : AllText calls wide) → IsReader (and_more calls wide (ix_inside calls room) (mixed_inside calls wide room) k a)
ands_reader calls wide room x k q a = (and_rule (ix_inside_rule calls room) (mixed_inside_rule calls wide room) k a).reader

ors_reader : (calls : Bool) (room : ℕ) (x : Symbol) (k : Unit {0}) → this_mark (codes "||") x ≡ Some k → (c : CondText calls true) → IsReader (or_more calls (ix_inside calls room) (mixed_inside calls true room) k c)
ors_reader calls room x k q c = (or_rule (ix_inside_rule calls room) (mixed_inside_rule calls true room) k c).reader

abbrev more_ands : (calls wide : Bool) → ℕ → AllText calls wide → Reader Symbol (AllText calls wide)
more_ands calls wide room = all (this_mark (codes "&&")) (and_more calls wide (ix_inside calls room) (mixed_inside calls wide room))

abbrev more_ors : (calls wide : Bool) → ℕ → CondText calls wide → Reader Symbol (CondText calls wide)
more_ors calls true room c = all (this_mark (codes "||")) (or_more calls (ix_inside calls room) (mixed_inside calls true room)) c
more_ors calls false room c = give c

abbrev ors_of : (calls wide : Bool) → ℕ → AllText calls wide → Reader Symbol (CondText calls wide)
ors_of calls wide room = read_ors calls wide (ix_inside calls room) (mixed_inside calls wide room)

-- a reader that reads one condition and then what is joined to it
abbrev Starts : (calls wide : Bool) (room : ℕ) {D : Type 0} → Reader Symbol D → (AllText calls wide → Reader Symbol D) → Type 0
Starts calls wide room {D} p next =
    (q : PrimText calls wide) (ts rest : List Symbol) (d : D) (end : List Symbol) → Gets (half_of calls wide room) ts (condition q) rest → Gets (after (more_ands calls wide room (g.prim q)) next) rest d end → Gets p ts d end

-- what doesn't go on with conditions that are joined
abbrev pub EndsCond : List Symbol → Type 0
EndsCond rest = EndsIx rest × NotNext (this_mark (codes "&&")) rest

mixed_starts : (calls wide : Bool) (room : ℕ) → Starts calls wide room (after (half_of calls wide room) (half_more calls wide room)) (λ a. after (ors_of calls wide room a) (λ c. give (conditions c)))
mixed_starts calls wide room q ts rest d end e h = gets_after _ e h

ors_end : (calls wide : Bool) (room : ℕ) (c : CondText calls wide) (rest : List Symbol) → NotNext (this_mark (codes "||")) rest → Gets (more_ors calls wide room c) rest c rest
ors_end calls true room c rest e = gets_end _ _ e
ors_end calls false room c rest e = gets_give

-- what is read of a condition in parentheses, or of one that is not
abbrev Made : (calls wide in_parens : Bool) → Type 0
Made calls wide true = Mixed calls wide
Made calls wide false = CondText calls wide

mutual
  all_opens : (calls wide m : Bool) (room : ℕ) (p : Reader Symbol (Made calls wide m)) (next : AllText calls wide → Reader Symbol (Made calls wide m)) → Starts calls wide room p next → (a : AllText calls wide) (rest : List Symbol) (d : Made calls wide m) (end : List Symbol) → EndsIx rest
      → Gets (after (more_ands calls wide room a) next) rest d end → Gets p (all_symbols a ++ rest) d end
  all_opens calls wide m room p next start (g.prim q) rest d end e h = start q (prim_symbols q ++ rest) rest d end (prim_gets calls wide q room rest e) h
  all_opens calls wide m room p next start (g.and_prim a q) rest d end e h =
      regroup (all_symbols a) (mark (codes "&&") ∷ prim_symbols q) rest
      (all_opens calls wide m room p next start a (mark (codes "&&") ∷ (prim_symbols q ++ rest)) d end (refl, refl, refl)
      (gets_turn_then (ands_reader calls wide room) refl (gets_after _ (gets_after _ (prim_gets calls wide q room rest e) gets_give) gets_give) next h))

  cond_opens : (calls wide m : Bool) (room : ℕ) (p : Reader Symbol (Made calls wide m)) (next : CondText calls wide → Reader Symbol (Made calls wide m)) → Starts calls wide room p (λ a. after (ors_of calls wide room a) next) → (c : CondText calls wide) (rest : List Symbol) (d : Made calls wide m) (end : List Symbol) → EndsCond rest
      → Gets (after (more_ors calls wide room c) next) rest d end → Gets p (cond_symbols c ++ rest) d end
  cond_opens calls true m room p next start (g.all_of a) rest d end e h = all_opens calls true m room p (λ a. after (ors_of calls true room a) next) start a rest d end e.0 (gets_after _ (gets_end _ _ e.1) h)
  cond_opens calls false m room p next start (g.all_of a) rest d end e h = all_opens calls false m room p (λ a. after (ors_of calls false room a) next) start a rest d end e.0 (gets_after _ (gets_end _ _ e.1) h)
  cond_opens calls true m room p next start (g.or_all k c a) rest d end e h =
      regroup (cond_symbols c) (mark (codes "||") ∷ all_symbols a) rest
      (cond_opens calls true m room p next start c (mark (codes "||") ∷ (all_symbols a ++ rest)) d end ((refl, refl, refl), refl)
      (gets_turn_then (ors_reader calls room) refl
      (all_opens calls true false room (or_more calls (ix_inside calls room) (mixed_inside calls true room) tt c) (λ a. give (g.or_all refl c a)) (λ q ts rest d end e h. gets_after _ (gets_after _ e gets_give) h) a rest (g.or_all refl c a) rest e.0 (gets_after _ (gets_end _ _ e.1) gets_give))
      next (subst (λ k. Gets (after (more_ors calls true room (g.or_all k c a)) next) rest d end) (Bool-set true true k refl) h)))
  cond_opens calls false m room p next start (g.or_all k c a) rest d end e h = absurd (cc)

  prim_gets : (calls wide : Bool) (q : PrimText calls wide) (room : ℕ) (rest : List Symbol) → EndsIx rest → Gets (half_of calls wide room) (prim_symbols q ++ rest) (condition q) rest
  prim_gets calls wide (g.enclosed c) room rest e =
      gets_on _ _ _ refl (gets_after _
      (regroup (cond_symbols c) (mark (codes ")") ∷ []) rest (mixed_gets calls wide room (λ r.
      cond_opens calls wide true r (after (half_of calls wide r) (half_more calls wide r)) (λ c. give (conditions c)) (mixed_starts calls wide r) c (mark (codes ")") ∷ rest) (conditions c) (mark (codes ")") ∷ rest) ((refl, refl, refl), refl) (gets_after _ (ors_end calls wide r c (mark (codes ")") ∷ rest) refl) gets_give))))
      (gets_on _ _ _ refl gets_give))
  prim_gets calls wide (g.compared a rel k b) room rest e =
      regroup (ix_symbols a) (mark (rel_mark rel) ∷ ix_symbols b) rest
      (half_opens calls wide a room (mark (rel_mark rel) ∷ (ix_symbols b ++ rest)) (condition (g.compared a rel k b)) rest ((rel_ends rel (ix_symbols b ++ rest)).1, (rel_ends rel (ix_symbols b ++ rest)).2)
      (gets_after _ (gets_end _ _ (rel_ends rel (ix_symbols b ++ rest)).0) (gets_on _ _ _ ((rel_test wide).passes (rel, k)) (gets_after _ (sum_gets calls b room rest e) gets_give))))
  prim_gets calls true (g.divisible k t by h so) room rest e =
      subst (λ k. Gets (half_of calls true room) (prim_symbols (g.divisible k t by h so) ++ rest) (condition (g.divisible k t by h so)) rest) (Bool-set true true refl k)
      (regroup (term_symbols t) (mark (codes "%") ∷ number by ∷ mark (zero_mark so) ∷ number (codes "0") ∷ []) rest
      (half_opens calls true (g.term t) room (mark (codes "%") ∷ number by ∷ mark (zero_mark so) ∷ number (codes "0") ∷ rest) (condition (g.divisible refl t by h so)) rest (refl, refl)
      (gets_after _ (gets_end _ _ refl) (gets_other _ _ refl (gets_on _ _ _ refl (gets_on _ _ _ (divisor_test.passes (by, h)) (gets_on _ _ _ (zero_test.passes so) (gets_on _ _ _ refl gets_give))))))))
  prim_gets calls false (g.divisible k t by h so) room rest e = absurd (cc)

pub cond_gets : (calls wide : Bool) (c : CondText calls wide) (room : ℕ) (rest : List Symbol) → EndsCond rest → NotNext (this_mark (codes "||")) rest → Gets (read_cond calls wide room) (cond_symbols c ++ rest) c rest
cond_gets calls wide c room rest e n =
    cond_opens calls wide false room (read_cond calls wide room) give (λ q ts rest d end e h. gets_after _ (gets_after _ e gets_give) h) c rest c rest e (gets_after _ (ors_end calls wide room c rest n) gets_give)

pub inside_room : {A : Type 0} {p : ℕ → Reader Symbol A} (room : ℕ) {ts rest : List Symbol} {a : A} → ((r : ℕ) → Gets (p r) ts a rest) → Gets (inside p room) ts a rest
unfolding inside
inside_room zero h = gets_deep
inside_room (suc room) h = h room
