-- A run that stores at its instances' own elements is its own: in the source's order, with each element at its own place.
use Rattle.std.proofs.Common.{◌≡◌, ℕ, ℤ, List, [], ◌∷◌, map, refl, ap}
use Rattle.affc_ast.specs.declared.tree.Instance.{Instance}
use Rattle.affc_ast.specs.declared.tree.Program.{Program}
use Rattle.affc_ast.specs.Compiles.{RunsAs}
use Rattle.affc_ast.specs.Follows.{stores_by, elements, in_source_order, own_place, put_at}
use Rattle.affc_ast.specs.Meaning.{State, Ended, meaning}
use Rattle.affc_ast.specs.Store.{Element, Store}
use Rattle.affc_ast.specs.Trace.{trace, store_of}

same_stores : (own : Instance → Element) (instances : List Instance) (written : List (Element × ℕ)) → elements written ≡ map own instances
    → written ≡ map (put_at own_place) (in_source_order (stores_by instances written))
same_stores own [] [] e = refl
same_stores own [] (w ∷ ws) e = cc
same_stores own (x ∷ xs) [] e = cc
same_stores own (x ∷ xs) (w ∷ ws) e =
    let rest : elements ws ≡ map own xs = cc in
    ap (λ l. w ∷ l) (same_stores own xs ws rest)

pub follows_itself : (program : Program) (p : List ℤ) (store : Store) (t : State) → meaning program p store ≡ Ended t
    → elements t.written ≡ map (store_of program p) (trace program p) → RunsAs program program in_source_order own_place p store
follows_itself program p store t ends own = record {
  follows = record {
    source_end = t;
    source_ends = ends;
    target_end = t;
    target_ends = ends;
    own_elements = own;
    written = same_stores (store_of program p) (trace program p) t.written own;
  };
  same_outputs = refl;
}
