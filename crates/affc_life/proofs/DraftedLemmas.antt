-- The clash systems of a list are over their columns.
use Rattle.std.proofs.Common.{◌≡◌, ℕ, ◌+◌, ◌≤◌, List, [], ◌∷◌, ◌++◌, length, map, flat_map, Some, refl, sym, ap, subst, ◌∙◌, inl, inr}
use Rattle.std.specs.Prelude.{slice_get}
use Rattle.std.specs.List.{All}
use Rattle.std.proofs.lemmas.List.Elements.{All-nil, All-cons}
use Rattle.affc_rows.specs.Forms.{Affine}
use Rattle.affc_system.specs.Pairs.{IsSubscript}
use Rattle.affc_system.specs.Systems.{Rows}
use Rattle.affc_trace.specs.Law.{IsIn}
use Rattle.affc_domain.proofs.Lists.{stands_in}
use Rattle.affc_nest.specs.Asked.{IsNest}
use Rattle.affc_nest.specs.declared.nest.Entry.{Entry}
use Rattle.affc_nest.specs.declared.nest.Nest.{Nest}
use Rattle.affc_nest.specs.Domains.{gap_row}
use Rattle.affc_order.specs.Placed.{IsPlaced}
use Rattle.affc_sched.proofs.LegalLemmas.{entry_at}
use Rattle.affc_quast.specs.Trees.{Tree}
use Rattle.affc_life.specs.declared.draft.Draft.{Draft}
use Rattle.affc_life.specs.Asked.{KeepLimits, AreSeated, StandBeside}
use Rattle.affc_life.specs.Clashes.{Clash, Walk, clashes_of_entry, clash_columns, of_reader, of_writer, front_rows, reader_posed, named_posed, writer_posed, clashes_of}
use Rattle.affc_life.specs.Drafts.{drafted, IsPaired}
use Rattle.affc_life.proofs.LeafLemmas.{path_of}
use Rattle.affc_life.proofs.MadeLemmas.{OfWalk, of_walk}
use Rattle.affc_life.proofs.PairedLemmas.{KeepsWidth, all_rows, first_subscripts, second_subscripts, is_paired}
use Rattle.affc_life.proofs.SeatedLemmas.{at_leaf}

module _ (nest : Nest) (n : IsNest nest) (trees : List Tree) (limits : KeepLimits nest trees) (walk : Walk) (c : Clash) (k : OfWalk nest trees walk c) where
  abbrev pub columns : ℕ
  columns = clash_columns nest k.reader k.leaf k.of_leaf.writer

  pub reader_there : slice_get nest.entries k.reader.part ≡ Some k.reader
  reader_there = subst (λ (x : Nest). slice_get x.entries k.reader.part ≡ Some k.reader) (sym n.is) (entry_at n.program n.has k.reader (subst (λ (x : Nest). IsIn k.reader x.entries) n.is k.reader_in))

  pub at_its_leaf : AreSeated nest k.reader k.leaf k.of_leaf.writer
  at_its_leaf = record {
    nested = n;
    reads = record { there = k.reader_in; alive = k.alive };
    path = path_of nest (length nest.params + length k.reader.loops) k.tree (limits k.reader.part k.number k.reader k.tree reader_there k.counts k.tree_there) k.leaf k.leaf_in;
    writes = record { there = k.of_leaf.writer_in; alive = k.of_leaf.writer_alive };
  }

  pub seated : StandBeside nest k.reader k.leaf k.of_leaf.writer
  seated = at_leaf nest k.reader k.leaf k.of_leaf.writer at_its_leaf

  pub named_has : IsPlaced nest k.leaf.columns k.of_leaf.named
  named_has = at_its_leaf.path.named k.of_leaf.named k.of_leaf.names

  load_in : IsIn k.load k.reader.accesses
  load_in = stands_in k.reader.accesses k.number k.load k.load_there

  -- what each row keeps
  pub rows_all : (P Q : Affine → Type 0) → ((f g : Affine) (j : ℕ) → Q f → Q g → j ≤ 1 → P (gap_row f g j)) → All P (front_rows nest k.reader k.leaf k.of_leaf.writer)
      → ((s : Rows) → IsIn s (walk.after columns (named_posed nest k.reader k.leaf k.of_leaf.writer k.of_leaf.named) (writer_posed nest k.reader k.leaf k.of_leaf.writer)) → All P s.rows)
      → ((s : Rows) → IsIn s (walk.before columns (writer_posed nest k.reader k.leaf k.of_leaf.writer) (reader_posed nest k.reader k.leaf k.of_leaf.writer)) → All P s.rows)
      → All Q (map (of_reader nest k.reader k.leaf k.of_leaf.writer) k.load.subs) → All Q (map (of_writer nest k.reader k.leaf k.of_leaf.writer) k.of_leaf.store.subs) → All P c.system.rows
  rows_all = all_rows nest n walk c k.reader k.load load_in k.leaf k.of_leaf at_its_leaf

  pub x_subscripts : All (IsSubscript columns) (map (of_reader nest k.reader k.leaf k.of_leaf.writer) k.load.subs)
  x_subscripts = first_subscripts nest n walk c k.reader k.load load_in k.leaf k.of_leaf at_its_leaf

  pub y_subscripts : All (IsSubscript columns) (map (of_writer nest k.reader k.leaf k.of_leaf.writer) k.of_leaf.store.subs)
  y_subscripts = second_subscripts nest n walk c k.reader k.load load_in k.leaf k.of_leaf at_its_leaf

  its_paired : KeepsWidth nest walk.after → KeepsWidth nest walk.before → IsPaired c
  its_paired = is_paired nest n walk c k.reader k.load load_in k.leaf k.of_leaf at_its_leaf

-- ---- All of them

pub are_paired : (nest : Nest) → IsNest nest → (trees : List Tree) → KeepLimits nest trees → (walk : Walk) → KeepsWidth nest walk.after → KeepsWidth nest walk.before → All IsPaired (clashes_of nest trees walk)
are_paired nest n trees limits walk after before = all_in (clashes_of nest trees walk) (λ c i. i)
  where
    all_in : (cs : List Clash) → ((c : Clash) → IsIn c cs → IsIn c (clashes_of nest trees walk)) → All IsPaired cs
    all_in [] h = All-nil IsPaired
    all_in (c ∷ cs) h =
        All-cons IsPaired c cs (its_paired nest n trees limits walk c (of_walk nest trees walk c (h c (inl refl))) after before) (all_in cs (λ x i. h x (inr i)))

-- what the walk has added
module _ (nest : Nest) (trees ts : List Tree) (walk : Walk) (rs : List Entry) (start out : List Draft) (none : start ≡ []) (all : rs ≡ nest.entries) (same : ts ≡ trees)
    (added : flat_map drafted out ≡ flat_map drafted start ++ flat_map (clashes_of_entry nest walk ts) rs) where
  pub all_drafted : flat_map drafted out ≡ clashes_of nest trees walk
  all_drafted =
      added ∙ ap (λ ds. flat_map drafted ds ++ flat_map (clashes_of_entry nest walk ts) rs) none ∙ ap (λ us. flat_map (clashes_of_entry nest walk us) rs) same
      ∙ ap (flat_map (clashes_of_entry nest walk trees)) all

  pub all_paired : IsNest nest → KeepLimits nest trees → KeepsWidth nest walk.after → KeepsWidth nest walk.before → All IsPaired (flat_map drafted out)
  all_paired n limits after before = subst (All IsPaired) (sym all_drafted) (are_paired nest n trees limits walk after before)
