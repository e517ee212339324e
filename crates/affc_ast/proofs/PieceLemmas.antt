-- A condition is true exactly where one of its pieces holds, and has as many pieces as are counted.
use Rattle.std.proofs.Common.{◌≡◌, ℕ, suc, ◌+◌, ◌*◌, ℤ, Bool, true, false, int_le, int_lt, List, [], ◌∷◌, ◌++◌, length, length-append, map, flat_map, refl, sym, ap, ◌∙◌, arith}
use Rattle.std.specs.List.{list_any}
use Rattle.std.specs.Prelude.{not, ◌&&◌, ◌||◌}
use Rattle.std.proofs.lemmas.Int.{ints}
use Rattle.std.proofs.lemmas.List.{length-map}
use Rattle.std.proofs.lemmas.List.Folds.{list_all-append, list_any-append}
use Rattle.affc_ast.specs.declared.tree.Cond.{Cond}
use Rattle.affc_ast.specs.declared.tree.Cond.TheVariants as c
use Rattle.affc_ast.specs.declared.tree.Cond.TheBlock.{Row_of-Cond, more_of-Cond, end_of-Cond}
use Rattle.affc_ast.specs.declared.tree.Ix.{Ix}
use Rattle.affc_ast.specs.declared.tree.Rel.{Rel}
use Rattle.affc_ast.specs.declared.tree.Rel.TheVariants.{Less, LessEqual, Greater, GreaterEqual, Equal, NotEqual}
use Rattle.affc_ast.specs.Denials.{opposite, denied_step, denied}
use Rattle.affc_ast.specs.Fits.{whole, all_true, some_true, truth_step, is_true_at}
use Rattle.affc_ast.specs.Index.{compares}
use Rattle.affc_ast.specs.Pieces.{Atom, Below, UpTo, Same, Remainder, atom_holds, piece_holds, pieces_of_relation, before, product, pieces_step, pieces, multiplied, added, count_of_relation, counts_step, counts_of}
use Rattle.affc_ast.specs.Recursion.{by_entries}
use Rattle.affc_ast.specs.Trace.{joined}
use Rattle.affc_ast.proofs.Steps.{all_here, any_here}

-- ---- Truth

pub and_true : (b : Bool) → b && true ≡ b
and_true true = refl
and_true false = refl

and_false : (b : Bool) → false ≡ b && false
and_false true = refl
and_false false = refl

or_false : (b : Bool) → b || false ≡ b
or_false true = refl
or_false false = refl

-- a && b || a && c
out_of_first : (a b c : Bool) → (a && b) || (a && c) ≡ a && (b || c)
out_of_first true b c = refl
out_of_first false b c = refl

-- a && c || b && c
out_of_second : (a b c : Bool) → (a && c) || (b && c) ≡ (a || b) && c
out_of_second true true true = refl
out_of_second true true false = refl
out_of_second true false true = refl
out_of_second true false false = refl
out_of_second false true c = refl
out_of_second false false c = refl

less_or_greater : (x y : ℤ) → int_lt x y || int_lt y x ≡ not (int_le x y && int_le y x)
less_or_greater x y = grind (arith, ints)

module _ (names : List ℤ) where
  -- whether some of these pieces hold
  abbrev pub some_hold : List (List Atom) → Bool
  some_hold ps = list_any (piece_holds names) ps

  some_before : (p : List Atom) (others : List (List Atom)) → some_hold (before others p) ≡ piece_holds names p && some_hold others
  some_before p [] = and_false (piece_holds names p)
  some_before p (q ∷ others) =
      ap (λ b. b || some_hold (before others p)) (list_all-append (atom_holds names) p q)
      ∙ ap (λ b. (piece_holds names p && piece_holds names q) || b) (some_before p others)
      ∙ out_of_first (piece_holds names p) (piece_holds names q) (some_hold others)

  some_product : (ps others : List (List Atom)) → some_hold (flat_map (before others) ps) ≡ some_hold ps && some_hold others
  some_product [] others = refl
  some_product (p ∷ ps) others =
      list_any-append (piece_holds names) (before others p) (flat_map (before others) ps)
      ∙ ap (λ b. b || some_hold (flat_map (before others) ps)) (some_before p others)
      ∙ ap (λ b. (piece_holds names p && some_hold others) || b) (some_product ps others)
      ∙ out_of_second (piece_holds names p) (some_hold ps) (some_hold others)

  one_holds : (a : Atom) → some_hold ((a ∷ []) ∷ []) ≡ atom_holds names a
  one_holds a = or_false (atom_holds names a && true) ∙ and_true (atom_holds names a)

  of_relation : (rel : Rel) (left right : Ix) → some_hold (pieces_of_relation rel left right) ≡ compares rel (whole left names) (whole right names)
  of_relation Less left right = one_holds (Below left right)
  of_relation LessEqual left right = one_holds (UpTo left right)
  of_relation Greater left right = one_holds (Below right left)
  of_relation GreaterEqual left right = one_holds (UpTo right left)
  of_relation Equal left right = one_holds (Same left right)
  of_relation NotEqual left right =
      ap (λ b. b || some_hold ((Below right left ∷ []) ∷ [])) (and_true (int_lt (whole left names) (whole right names)))
      ∙ ap (λ b. int_lt (whole left names) (whole right names) || b) (one_holds (Below right left))
      ∙ less_or_greater (whole left names) (whole right names)

  mutual
    truth' : (x : Cond) → some_hold (pieces x) ≡ is_true_at x names
    truth' (c.Compare rel left right) = of_relation rel left right
    truth' (c.All' shape entries) = truth_of_all entries
    truth' (c.Any' shape entries) = truth_of_some entries
    truth' (c.Divides value by so) = one_holds (Remainder value by so)

    truth_of_all : {n : _} (entries : Row_of-Cond n) → some_hold (product (by_entries pieces_step entries)) ≡ all_true (by_entries (truth_step names) entries)
    truth_of_all end_of-Cond = refl
    truth_of_all (more_of-Cond x rest) =
        some_product (pieces x) (product (by_entries pieces_step rest))
        ∙ ap (λ b. b && some_hold (product (by_entries pieces_step rest))) (truth' x)
        ∙ ap (λ b. is_true_at x names && b) (truth_of_all rest)

    truth_of_some : {n : _} (entries : Row_of-Cond n) → some_hold (joined (by_entries pieces_step entries)) ≡ some_true (by_entries (truth_step names) entries)
    truth_of_some end_of-Cond = refl
    truth_of_some (more_of-Cond x rest) =
        list_any-append (piece_holds names) (pieces x) (joined (by_entries pieces_step rest))
        ∙ ap (λ b. b || some_hold (joined (by_entries pieces_step rest))) (truth' x)
        ∙ ap (λ b. is_true_at x names || b) (truth_of_some rest)

pub truth : (cond : Cond) (names : List ℤ) → list_any (piece_holds names) (pieces cond) ≡ is_true_at cond names
truth cond names = truth' names cond

-- ---- How many

product_length : (ps others : List (List Atom)) → length (flat_map (before others) ps) ≡ length ps * length others
product_length [] others = none (length others)
  where
    none : (n : ℕ) → 0 ≡ 0 * n
    none n = omega arith
product_length (p ∷ ps) others =
    length-append (before others p) (flat_map (before others) ps)
    ∙ ap (λ n. n + length (flat_map (before others) ps)) (length-map others (λ other. p ++ other))
    ∙ ap (λ n. length others + n) (product_length ps others)
    ∙ more (length ps) (length others)
  where
    more : (m n : ℕ) → n + m * n ≡ suc m * n
    more m n = grind arith

relation_length : (rel : Rel) (left right : Ix) → length (pieces_of_relation rel left right) ≡ count_of_relation rel
relation_length Less left right = refl
relation_length LessEqual left right = refl
relation_length Greater left right = refl
relation_length GreaterEqual left right = refl
relation_length Equal left right = refl
relation_length NotEqual left right = refl

-- of one more condition
times : (ps : List (List Atom)) (pss : List (List (List Atom))) (m n : ℕ) → length ps ≡ m → length (product pss) ≡ n → length (product (ps ∷ pss)) ≡ m * n
times ps pss m n e f = product_length ps (product pss) ∙ ap (λ k. k * length (product pss)) e ∙ ap (λ k. m * k) f

plus : (ps : List (List Atom)) (pss : List (List (List Atom))) (m n : ℕ) → length ps ≡ m → length (joined pss) ≡ n → length (joined (ps ∷ pss)) ≡ m + n
plus ps pss m n e f = length-append ps (joined pss) ∙ ap (λ k. k + length (joined pss)) e ∙ ap (λ k. m + k) f

mutual
  plain_count : (x : Cond) → length (pieces x) ≡ (counts_of x).plain
  plain_count (c.Compare rel left right) = relation_length rel left right
  plain_count (c.All' shape entries) = plain_product entries
  plain_count (c.Any' shape entries) = plain_sum entries
  plain_count (c.Divides value by so) = refl

  plain_product : {n : _} (entries : Row_of-Cond n) → length (product (by_entries pieces_step entries)) ≡ multiplied (map (λ n. n.plain) (by_entries counts_step entries))
  plain_product end_of-Cond = refl
  plain_product (more_of-Cond x rest) = times (pieces x) (by_entries pieces_step rest) _ _ (plain_count x) (plain_product rest)

  plain_sum : {n : _} (entries : Row_of-Cond n) → length (joined (by_entries pieces_step entries)) ≡ added (map (λ n. n.plain) (by_entries counts_step entries))
  plain_sum end_of-Cond = refl
  plain_sum (more_of-Cond x rest) = plus (pieces x) (by_entries pieces_step rest) _ _ (plain_count x) (plain_sum rest)

mutual
  denied_count : (x : Cond) → length (pieces (denied x)) ≡ (counts_of x).denied
  denied_count (c.Compare rel left right) = relation_length (opposite rel) left right
  denied_count (c.All' shape entries) = ap length (any_here pieces_step (by_entries denied_step entries)) ∙ denied_sum entries
  denied_count (c.Any' shape entries) = ap length (all_here pieces_step (by_entries denied_step entries)) ∙ denied_product entries
  denied_count (c.Divides value by so) = refl

  denied_product : {n : _} (entries : Row_of-Cond n) → length (product (map pieces (by_entries denied_step entries))) ≡ multiplied (map (λ n. n.denied) (by_entries counts_step entries))
  denied_product end_of-Cond = refl
  denied_product (more_of-Cond x rest) = times (pieces (denied x)) (map pieces (by_entries denied_step rest)) _ _ (denied_count x) (denied_product rest)

  denied_sum : {n : _} (entries : Row_of-Cond n) → length (joined (map pieces (by_entries denied_step entries))) ≡ added (map (λ n. n.denied) (by_entries counts_step entries))
  denied_sum end_of-Cond = refl
  denied_sum (more_of-Cond x rest) = plus (pieces (denied x)) (map pieces (by_entries denied_step rest)) _ _ (denied_count x) (denied_sum rest)

pub counted : (cond : Cond) → counts_of cond ≡ record { plain = length (pieces cond); denied = length (pieces (denied cond)) }
counted cond = λ i. record { plain = sym (plain_count cond) i; denied = sym (denied_count cond) i }
