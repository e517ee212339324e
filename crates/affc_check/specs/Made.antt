-- Folds that are put behind others, and what is known of their marks where a certificate is valid.
use Rattle.std.specs.Prelude.{◌≡◌, ℤ, List, [], ◌∷◌, ◌++◌, length, map, Option, Some, None}
use Rattle.std.specs.List.{All, AllZip}
use Rattle.affc_ast.specs.declared.tree.ArrayId.{ArrayId}
use Rattle.affc_basis.specs.declared.fold.Fold.{Fold}
use Rattle.affc_rows.specs.Forms.{Affine, value}
use Rattle.affc_system.specs.declared.pairs.PairSystem.{PairSystem}
use Rattle.affc_certvalue.specs.Limits.{IsWord}
use Rattle.affc_certvalue.specs.declared.fold.fold.CertFold.{CertFold}
use Rattle.affc_life.specs.Clashes.{Clash, clash_of, clashes}
use Rattle.affc_life.specs.Sizes.{AnyLarge}
use Rattle.affc_nest.specs.declared.nest.Nest.{Nest}
use Rattle.affc_quast.specs.Trees.{Tree}
use Rattle.affc_trace.specs.declared.schedule.Schedule.{Schedule}
use Rattle.affc_check.specs.list.Certs.{IsFoldSaid}
use Rattle.affc_check.specs.list.Items.{LeastShown, ModulusShown, FoldShown, numbered}
use Rattle.affc_check.specs.Answers.{IsFoldMade}

-- the fold that a certificate says, however its array's clash systems are held
abbrev pub IsMadeOf : Nest → Schedule → List Tree → CertFold → ArrayId × Fold → Type 0
IsMadeOf nest schedule trees c made = (f : FoldShown) → IsFoldSaid nest schedule trees c f → IsFoldMade f made

-- the folds that these say, each with its array
pub record AreMade (nest : Nest) (schedule : Schedule) (trees : List Tree) (cs : List CertFold) (old new : List (ArrayId × Fold)) : Type 0 where
  pub made : List (ArrayId × Fold)
  pub put : new ≡ old ++ made
  pub each : AllZip (IsMadeOf nest schedule trees) cs made

-- ---- Elements of marks

-- a point with a number for each of the system's columns, at which the subscripts of both elements fit 64 bits
pub record AreWordsAt (s : PairSystem) (point : List ℤ) : Type 0 where
  pub width : length point ≡ s.system.columns
  pub first : All (λ f. IsWord (value f point)) s.x.items
  pub second : All (λ f. IsWord (value f point)) s.y.items

abbrev pub IsPairFit : List PairSystem → Option (ℤ × List ℤ) → Type 0
IsPairFit systems None = Unit {0}
IsPairFit systems (Some pair) = (s : PairSystem) → numbered systems pair.0 ≡ Some s → AreWordsAt s pair.1

abbrev pub IsMarkFit : List PairSystem → Option LeastShown → Type 0
IsMarkFit systems None = Unit {0}
IsMarkFit systems (Some l) = IsPairFit systems l.pair

-- each row's mark
abbrev pub AreRowsFit : List PairSystem → (rows : List Affine) → List ModulusShown → Type 0
AreRowsFit systems [] ms = Unit {0}
AreRowsFit systems (row ∷ rows) [] = Unit {0}
AreRowsFit systems (row ∷ rows) (m ∷ ms) = IsMarkFit systems m.least × AreRowsFit systems rows ms

-- the mark of a row, and those of rows, where the clash systems say this
pub record MarkFits (cs : List Clash) (least : Option LeastShown) : Type 0 where
  pub systems : List PairSystem
  pub are : map clash_of systems ≡ cs
  pub fit : IsMarkFit systems least

pub record RowsFit (cs : List Clash) (rows : List Affine) (ms : List ModulusShown) : Type 0 where
  pub systems : List PairSystem
  pub are : map clash_of systems ≡ cs
  pub fit : AreRowsFit systems rows ms

-- the marks of a fold, none of whose array's clash systems passes the limits
pub record FoldFits (nest : Nest) (schedule : Schedule) (trees : List Tree) (c : CertFold) : Type 0 where
  pub fits : ¬ (AnyLarge (clashes nest trees schedule c.array.0))
  pub fold : FoldShown
  pub said : IsFoldSaid nest schedule trees c fold
  pub fit : AreRowsFit fold.systems fold.rows fold.moduli
