-- What is counted or tested of a condition stays where its expressions are moved, and where it is denied.
use Rattle.std.proofs.Common.{◌≡◌, ℕ, suc, ◌+◌, ◌≤◌, ℤ, Bool, true, false, not, ◌&&◌, nat_le, List, [], ◌∷◌, length, map, refl, sym, ap, subst, ◌∙◌, arith}
use Rattle.std.proofs.lemmas.Bool.{and_parts, and_from, false≢true, le-leb}
use Rattle.affc_ast.specs.declared.tree.Compare.{Compare}
use Rattle.affc_ast.specs.declared.tree.Cond.{Cond}
use Rattle.affc_ast.specs.declared.tree.Cond.TheVariants as c
use Rattle.affc_ast.specs.declared.tree.Cond.TheOpen as layer
use Rattle.affc_ast.specs.declared.tree.Cond.TheOpen.{Cond-F}
use Rattle.affc_ast.specs.declared.tree.Cond.TheBlock.{Row_of-Cond, more_of-Cond, end_of-Cond}
use Rattle.affc_ast.specs.declared.tree.Ix.{Ix}
use Rattle.affc_ast.specs.declared.tree.Rel.{Rel}
use Rattle.affc_ast.specs.Denials.{opposite, denied_step, denied}
use Rattle.affc_ast.specs.Joined.{is_ordered}
use Rattle.affc_ast.specs.Pieces.{added, comparisons_step, comparisons_of}
use Rattle.affc_ast.specs.Recursion.{by_cond, by_entries}
use Rattle.affc_ast.proofs.Steps.{all_here, any_here}
use Rattle.affc_loops.specs.Loops.{as_condition, all_of}
use Rattle.affc_loops.specs.Trees.{moved, moved_cond_step, moved_cond}
use Rattle.affc_wellnamed.specs.Known.{Known, CondKnown, is_divisor, ix_known, compare_known, compares_known, is_joined_by, each_known, joined_known, cond_step, cond_seen, cond_known}
use Rattle.affc_cprint.proofs.ReadBackValues.{Each}
use Rattle.affc_wellnamed.proofs.Induction.{every_cond}
use Rattle.affc_loopprint.proofs.Entries.{EachTwo}
use Rattle.affc_loopprint.proofs.Moved.{wider, moved_known}

-- ---- Where a step is the same for moved expressions

module _ {A : Type 0} (f : Cond-F A → A) (first more : ℕ) (compares : (rel : Rel) (left right : Ix) → f (layer.Compare rel (moved first more left) (moved first more right)) ≡ f (layer.Compare rel left right))
    (divides : (value : Ix) (by : ℤ) (so : Bool) → f (layer.Divides (moved first more value) by so) ≡ f (layer.Divides value by so)) where
  mutual
    pub moved_same : (x : Cond) → by_cond f (moved_cond first more x) ≡ by_cond f x
    moved_same (c.Compare rel left right) = compares rel left right
    moved_same (c.All' shape entries) = all_here f (by_entries (moved_cond_step first more) entries) ∙ ap (λ l. f (layer.All l)) (each_moved_same entries)
    moved_same (c.Any' shape entries) = any_here f (by_entries (moved_cond_step first more) entries) ∙ ap (λ l. f (layer.Any l)) (each_moved_same entries)
    moved_same (c.Divides value by so) = divides value by so

    each_moved_same : {n : _} (entries : Row_of-Cond n) → map (by_cond f) (by_entries (moved_cond_step first more) entries) ≡ by_entries f entries
    each_moved_same end_of-Cond = refl
    each_moved_same (more_of-Cond x rest) = λ i. moved_same x i ∷ each_moved_same rest i

-- ---- Where a step is the same for the denial

module _ {A : Type 0} (f : Cond-F A → A) (compares : (rel : Rel) (left right : Ix) → f (layer.Compare (opposite rel) left right) ≡ f (layer.Compare rel left right)) (joins : (ys : List A) → f (layer.Any ys) ≡ f (layer.All ys))
    (divides : (value : Ix) (by : ℤ) (so : Bool) → f (layer.Divides value by (not so)) ≡ f (layer.Divides value by so)) where
  mutual
    pub denied_same : (x : Cond) → by_cond f (denied x) ≡ by_cond f x
    denied_same (c.Compare rel left right) = compares rel left right
    denied_same (c.All' shape entries) = any_here f (by_entries denied_step entries) ∙ joins (map (by_cond f) (by_entries denied_step entries)) ∙ ap (λ l. f (layer.All l)) (each_denied_same entries)
    denied_same (c.Any' shape entries) = all_here f (by_entries denied_step entries) ∙ sym (joins (map (by_cond f) (by_entries denied_step entries))) ∙ ap (λ l. f (layer.Any l)) (each_denied_same entries)
    denied_same (c.Divides value by so) = divides value by so

    each_denied_same : {n : _} (entries : Row_of-Cond n) → map (by_cond f) (by_entries denied_step entries) ≡ by_entries f entries
    each_denied_same end_of-Cond = refl
    each_denied_same (more_of-Cond x rest) = λ i. denied_same x i ∷ each_denied_same rest i

-- ---- Known conditions

-- the names of one are known where those of the other are, and both are joined by the same
record Follows (k l : CondKnown) : Type 0 where
  is_all : l.is_all ≡ k.is_all
  is_any : l.is_any ≡ k.is_any
  is_known : k.is_known ≡ true → l.is_known ≡ true

follows_joined : (all : Bool) (k l : CondKnown) → Follows k l → is_joined_by all l ≡ is_joined_by all k
follows_joined true k l h = h.is_all
follows_joined false k l h = h.is_any

follows_each : (all : Bool) (ks ls : List CondKnown) → EachTwo Follows ks ls → each_known all ks ≡ true → each_known all ls ≡ true
follows_each all [] [] h k = refl
follows_each all [] (y ∷ ls) h k = absurd h
follows_each all (x ∷ ks) [] h k = absurd h
follows_each all (x ∷ ks) (y ∷ ls) h k =
    let p = and_parts (not (is_joined_by all x) && x.is_known) (each_known all ks) k in
    let q = and_parts (not (is_joined_by all x)) x.is_known p.0 in
    and_from (not (is_joined_by all y) && y.is_known) (each_known all ls) (and_from (not (is_joined_by all y)) y.is_known (ap not (follows_joined all x y h.0) ∙ q.0) (h.0.is_known q.1)) (follows_each all ks ls h.1 p.1)

follows_long : (ks ls : List CondKnown) → EachTwo Follows ks ls → length ls ≡ length ks
follows_long [] [] h = refl
follows_long [] (y ∷ ls) h = absurd h
follows_long (x ∷ ks) [] h = absurd h
follows_long (x ∷ ks) (y ∷ ls) h = ap suc (follows_long ks ls h.1)

joined_follows : (all : Bool) (ks ls : List CondKnown) → EachTwo Follows ks ls → joined_known all ks ≡ true → joined_known all ls ≡ true
joined_follows all ks ls h k =
    let p = and_parts (nat_le 2 (length ks)) (each_known all ks) k in
    and_from (nat_le 2 (length ls)) (each_known all ls) (ap (nat_le 2) (follows_long ks ls h) ∙ p.0) (follows_each all ks ls h p.1)

module _ (old new : Known) (calls : old.prelude ≡ true → new.prelude ≡ true) (first more : ℕ) (numbers : old.numbers + more ≤ new.numbers) where
  mutual
    moved_follows : (x : Cond) → Follows (cond_seen old x) (cond_seen new (moved_cond first more x))
    moved_follows (c.Compare rel left right) = record {
      is_all = refl;
      is_any = refl;
      is_known = λ h.
          let p = and_parts (ix_known old left) (ix_known old right) h in
          and_from (ix_known new (moved first more left)) (ix_known new (moved first more right)) (moved_known old new calls first more numbers left p.0) (moved_known old new calls first more numbers right p.1);
    }
    moved_follows (c.All' shape entries) =
        subst (Follows (cond_step old (layer.All (by_entries (cond_step old) entries)))) (sym (all_here (cond_step new) (by_entries (moved_cond_step first more) entries)))
        (record { is_all = refl; is_any = refl; is_known = joined_follows true (by_entries (cond_step old) entries) (map (cond_seen new) (by_entries (moved_cond_step first more) entries)) (each_follows entries) })
    moved_follows (c.Any' shape entries) =
        subst (Follows (cond_step old (layer.Any (by_entries (cond_step old) entries)))) (sym (any_here (cond_step new) (by_entries (moved_cond_step first more) entries)))
        (record { is_all = refl; is_any = refl; is_known = joined_follows false (by_entries (cond_step old) entries) (map (cond_seen new) (by_entries (moved_cond_step first more) entries)) (each_follows entries) })
    moved_follows (c.Divides value by so) = record {
      is_all = refl;
      is_any = refl;
      is_known = λ h.
          let p = and_parts (is_divisor by) (ix_known old value) h in
          and_from (is_divisor by) (ix_known new (moved first more value)) p.0 (moved_known old new calls first more numbers value p.1);
    }

    each_follows : {n : _} (entries : Row_of-Cond n) → EachTwo Follows (by_entries (cond_step old) entries) (map (cond_seen new) (by_entries (moved_cond_step first more) entries))
    each_follows end_of-Cond = tt
    each_follows (more_of-Cond x rest) = (moved_follows x, each_follows rest)

  pub moved_cond_known : (x : Cond) → cond_known old x ≡ true → cond_known new (moved_cond first more x) ≡ true
  moved_cond_known x h = (moved_follows x).is_known h

-- where at least as many names are known
module _ (old new : Known) (calls : old.prelude ≡ true → new.prelude ≡ true) (numbers : old.numbers ≤ new.numbers) where
  mutual
    wider_follows : (x : Cond) → Follows (cond_seen old x) (cond_seen new x)
    wider_follows (c.Compare rel left right) = record {
      is_all = refl;
      is_any = refl;
      is_known = λ h.
          let p = and_parts (ix_known old left) (ix_known old right) h in
          and_from (ix_known new left) (ix_known new right) (wider old new calls numbers left p.0) (wider old new calls numbers right p.1);
    }
    wider_follows (c.All' shape entries) = record { is_all = refl; is_any = refl; is_known = joined_follows true (by_entries (cond_step old) entries) (by_entries (cond_step new) entries) (each_wider entries) }
    wider_follows (c.Any' shape entries) = record { is_all = refl; is_any = refl; is_known = joined_follows false (by_entries (cond_step old) entries) (by_entries (cond_step new) entries) (each_wider entries) }
    wider_follows (c.Divides value by so) = record {
      is_all = refl;
      is_any = refl;
      is_known = λ h. let p = and_parts (is_divisor by) (ix_known old value) h in and_from (is_divisor by) (ix_known new value) p.0 (wider old new calls numbers value p.1);
    }

    each_wider : {n : _} (entries : Row_of-Cond n) → EachTwo Follows (by_entries (cond_step old) entries) (by_entries (cond_step new) entries)
    each_wider end_of-Cond = tt
    each_wider (more_of-Cond x rest) = (wider_follows x, each_wider rest)

  pub cond_wider : (x : Cond) → cond_known old x ≡ true → cond_known new x ≡ true
  cond_wider x h = (wider_follows x).is_known h

-- the denial is joined by the other mark
abbrev swapped : CondKnown → CondKnown
swapped k = record { is_all = k.is_any; is_any = k.is_all; is_known = k.is_known }

each_swapped : (all : Bool) (ks : List CondKnown) → each_known (not all) (map swapped ks) ≡ each_known all ks
each_swapped all [] = refl
each_swapped true (k ∷ ks) = ap (λ b. (not k.is_all && k.is_known) && b) (each_swapped true ks)
each_swapped false (k ∷ ks) = ap (λ b. (not k.is_any && k.is_known) && b) (each_swapped false ks)

swapped_long : (ks : List CondKnown) → length (map swapped ks) ≡ length ks
swapped_long [] = refl
swapped_long (k ∷ ks) = ap suc (swapped_long ks)

joined_swapped : (all : Bool) (ks : List CondKnown) → joined_known (not all) (map swapped ks) ≡ joined_known all ks
joined_swapped all ks = ap (λ n. nat_le 2 n && each_known (not all) (map swapped ks)) (swapped_long ks) ∙ ap (λ b. nat_le 2 (length ks) && b) (each_swapped all ks)

module _ (known : Known) where
  mutual
    denied_seen : (x : Cond) → cond_seen known (denied x) ≡ swapped (cond_seen known x)
    denied_seen (c.Compare rel left right) = refl
    denied_seen (c.All' shape entries) =
        let ks = by_entries (cond_step known) entries in
        any_here (cond_step known) (by_entries denied_step entries) ∙ ap (λ l. cond_step known (layer.Any l)) (each_denied_seen entries)
        ∙ ap {B = CondKnown} (λ b. record { is_all = false; is_any = true; is_known = b }) (joined_swapped true ks)
    denied_seen (c.Any' shape entries) =
        let ks = by_entries (cond_step known) entries in
        all_here (cond_step known) (by_entries denied_step entries) ∙ ap (λ l. cond_step known (layer.All l)) (each_denied_seen entries)
        ∙ ap {B = CondKnown} (λ b. record { is_all = true; is_any = false; is_known = b }) (joined_swapped false ks)
    denied_seen (c.Divides value by so) = refl

    each_denied_seen : {n : _} (entries : Row_of-Cond n) → map (cond_seen known) (by_entries denied_step entries) ≡ map swapped (by_entries (cond_step known) entries)
    each_denied_seen end_of-Cond = refl
    each_denied_seen (more_of-Cond x rest) = λ i. denied_seen x i ∷ each_denied_seen rest i

  pub denied_known : (x : Cond) → cond_known known (denied x) ≡ cond_known known x
  denied_known x = ap (λ (k : CondKnown). k.is_known) (denied_seen x)

  -- ---- A known condition has a comparison or a remainder

  abbrev HasSome : Cond → Type 0
  HasSome x = cond_known known x ≡ true → 1 ≤ comparisons_of x

  joined_some : (all : Bool) (xs : List Cond) → Each HasSome xs → joined_known all (map (cond_seen known) xs) ≡ true → 1 ≤ added (map comparisons_of xs)
  joined_some all [] f h = absurd (false≢true h)
  joined_some all (x ∷ xs) f h =
      let seen = cond_seen known x in
      let p = and_parts (nat_le 2 (length (map (cond_seen known) (x ∷ xs)))) _ h in
      let q = and_parts (not (is_joined_by all seen) && seen.is_known) _ p.1 in
      let s = f.0 (and_parts (not (is_joined_by all seen)) seen.is_known q.0).1 in
      omega (arith, s)

  pub known_some : (x : Cond) → cond_known known x ≡ true → 1 ≤ comparisons_of x
  known_some x = every_cond HasSome (record {
    compare = λ rel left right h. omega arith;
    all = λ xs f h.
        let s = joined_some true xs f (sym (ap (λ (k : CondKnown). k.is_known) (all_here (cond_step known) xs)) ∙ h) in
        let e = all_here comparisons_step xs in
        omega (arith, s, e);
    any = λ xs f h.
        let s = joined_some false xs f (sym (ap (λ (k : CondKnown). k.is_known) (any_here (cond_step known) xs)) ∙ h) in
        let e = any_here comparisons_step xs in
        omega (arith, s, e);
    divides = λ value by so h. omega arith;
  }) x

  -- ---- Comparisons that are joined

  each_test_known : (cs : List Compare) → compares_known known cs ≡ true → each_known true (map (cond_seen known) (map as_condition cs)) ≡ true
  each_test_known [] h = refl
  each_test_known (d ∷ cs) h =
      let p = and_parts (compare_known known d) (compares_known known cs) h in
      let q = and_parts (is_ordered d.rel) (ix_known known d.left && ix_known known d.right) p.0 in
      and_from (ix_known known d.left && ix_known known d.right) (each_known true (map (cond_seen known) (map as_condition cs))) q.1 (each_test_known cs p.1)

  pub all_of_known : (d : Compare) (cs : List Compare) → compares_known known (d ∷ cs) ≡ true → cond_known known (all_of d cs) ≡ true
  all_of_known d [] h = (and_parts (is_ordered d.rel) (ix_known known d.left && ix_known known d.right) (and_parts (compare_known known d) true h).0).1
  all_of_known d (e ∷ es) h =
      let xs : List Cond = map as_condition (d ∷ e ∷ es) in
      let ks : List CondKnown = map (cond_seen known) xs in
      ap (λ (k : CondKnown). k.is_known) (all_here (cond_step known) xs) ∙ and_from (nat_le 2 (length ks)) (each_known true ks) (le-leb 2 (length ks) (omega arith)) (each_test_known (d ∷ e ∷ es) h)
