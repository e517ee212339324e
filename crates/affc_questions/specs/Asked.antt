-- What questions are asked of.
use Rattle.std.specs.Prelude.{◌≡◌, ℕ, ◌+◌, ◌≤◌, List, length, Some}
use Rattle.std.specs.List.{All}
use Rattle.affc_rows.specs.Forms.{Affine, HaveColumns}
use Rattle.affc_system.specs.Pairs.{IsSubscript}
use Rattle.affc_system.specs.declared.pairs.PairSystem.{PairSystem}
use Rattle.affc_trace.specs.Law.{IsIn}
use Rattle.affc_basis.specs.Bases.{AreWithin, HaveCoefsWithin}
use Rattle.affc_basis.specs.Moduli.{IsModulus}
use Rattle.affc_nest.specs.Asked.{IsNest}
use Rattle.affc_nest.specs.declared.nest.Access.{Access}
use Rattle.affc_nest.specs.declared.nest.Entry.{Entry}
use Rattle.affc_nest.specs.declared.nest.Nest.{Nest}
use Rattle.affc_nest.specs.Parts.{coordinates}
use Rattle.affc_order.specs.Placed.{IsPlaced}
use Rattle.affc_order.specs.Posed.{Posed}
use Rattle.affc_quast.specs.Leaves.{Leaf}
use Rattle.affc_quast.specs.SeenLeaves.{leaf_seen}
use Rattle.affc_questions.specs.declared.reading.Reading.{Reading}
use Rattle.affc_life.specs.Asked.{IsLiving}

-- ---- Leaves

-- rows over the columns of a load's part and perhaps more, and an instance over these columns
pub record IsLeafOf (nest : Nest) (reader : Entry) (load : Access) (leaf : Leaf) : Type 0 where
  pub nested : IsNest nest
  pub reads : IsLiving nest reader
  pub loads : IsIn load reader.accesses
  pub first : length nest.params + coordinates reader ≤ leaf.columns
  pub few : leaf.columns ≤ 410
  pub rows : All (λ r. length r.coefs ≤ leaf.columns) leaf.rows
  pub named : (a : Posed) → leaf.named ≡ Some a → IsPlaced nest leaf.columns a

abbrev pub IsReading : Reading → Type 0
IsReading r = IsLeafOf r.nest.now r.reader.now r.load.now (leaf_seen r.leaf.now)

-- an access of a part that can have instances
pub record IsWriter (nest : Nest) (v : Entry) (y : Access) : Type 0 where
  pub writes : IsLiving nest v
  pub stores : IsIn y v.accesses

-- an instance of a part by a form for each of its coordinates
pub record IsInstanceOf (nest : Nest) (columns : ℕ) (a : Posed) (w : Entry) : Type 0 where
  pub forms : IsPlaced nest columns a
  pub each : length a.iterators ≡ coordinates w

-- ---- Folds

-- a modulus over some of the first of so many columns, within its limits
pub record IsModulusOver (columns : ℕ) (b : Affine) : Type 0 where
  pub parameters : length b.coefs ≤ columns
  pub fits : IsModulus (length b.coefs) b

-- rows of a basis of at most four dimensions
pub record AreBasisRows (rows : List Affine) : Type 0 where
  pub few : length rows ≤ 4
  pub square : HaveColumns (length rows) rows
  pub small : HaveCoefsWithin 256 rows

-- one element's and another's subscripts over so many columns, one each for each coefficient of a row of a basis
pub record AreElements (columns : ℕ) (row : Affine) (xs ys : List Affine) : Type 0 where
  pub some : 1 ≤ length xs
  pub few : length xs ≤ 4
  pub each : length ys ≡ length xs
  pub width : length row.coefs ≡ length xs
  pub small : AreWithin 256 row.coefs
  pub first : All (IsSubscript columns) xs
  pub second : All (IsSubscript columns) ys

-- one of these rows with a modulus over parameters of a system, whose elements have a subscript for each of these rows
pub record IsAlong (rows : List Affine) (row modulus : Affine) (s : PairSystem) : Type 0 where
  pub basis : AreBasisRows rows
  pub there : IsIn row rows
  pub over : IsModulusOver s.system.columns modulus
  pub first : length s.x.items ≡ length rows
  pub second : length s.y.items ≡ length rows
