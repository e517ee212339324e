-- The layout of a nest, and what a certificate that was read for it keeps.
use Rattle.std.specs.Prelude.{◌≡◌, ℕ, ◌+◌, ◌<◌, length, Some, slice_get}
use Rattle.affc_trace.specs.Law.{IsIn}
use Rattle.affc_nest.specs.declared.nest.ArrayInfo.{ArrayInfo}
use Rattle.affc_nest.specs.declared.nest.Entry.{Entry}
use Rattle.affc_nest.specs.declared.nest.Nest.{Nest}
use Rattle.affc_nest.specs.Parts.{coordinates}
use Rattle.affc_quast.specs.Sources.{loads_in, loads_before}
use Rattle.affc_cert.specs.Certificates.{seen}
use Rattle.affc_cert.specs.Within.{IsWithin}
use Rattle.affc_cert.specs.declared.cert.Cert.{Cert}
use Rattle.affc_cert.specs.declared.layout.Layout.{Layout}
use Rattle.affc_certvalue.specs.declared.fold.layout.Temporary.{Temporary}
use Rattle.affc_cert.specs.declared.tree.layout.Load.{Load}
use Rattle.affc_cert.specs.declared.tree.layout.Store.{Store}
use Rattle.affc_check.specs.list.Certs.{IsCertWithin}

-- a part with so many coordinates
pub record IsStoreIn (nest : Nest) (s : Store) : Type 0 where
  pub entry : Entry
  pub there : slice_get nest.entries s.statement ≡ Some entry
  pub loops : s.loops ≡ coordinates entry

-- a load of this part, with parts of the nest
pub record IsLoadIn (nest : Nest) (e : Entry) (l : Load) : Type 0 where
  pub columns : l.columns ≡ length nest.params + coordinates e
  pub stores : (s : Store) → IsIn s l.stores → IsStoreIn nest s

-- an array with so many dimensions
pub record IsTemporaryIn (nest : Nest) (t : Temporary) : Type 0 where
  pub info : ArrayInfo
  pub declared : slice_get nest.arrays t.array ≡ Some info
  pub dimensions : t.dimensions ≡ length info.extents

-- the nest's parameters, its loads, parts and loads in order, and arrays of it
pub record IsLayoutOf (nest : Nest) (layout : Layout) : Type 0 where
  pub parameters : layout.parameters ≡ nest.context.columns
  pub no_more : length layout.loads ≡ loads_before nest.entries (length nest.entries)
  pub loads : (part load : ℕ) (e : Entry) → slice_get nest.entries part ≡ Some e → load < loads_in e
      → (l : Load) × (slice_get layout.loads (loads_before nest.entries part + load) ≡ Some l) × IsLoadIn nest e l
  pub temporaries : (t : Temporary) → IsIn t layout.temporaries → IsTemporaryIn nest t

-- A certificate that was read for the layout of a nest keeps the limits that are asked of it.
abbrev pub ReadIsFor : Type 0
ReadIsFor = (nest : Nest) (layout : Layout) (c : Cert) → IsLayoutOf nest layout → IsWithin layout (seen c) → IsCertWithin nest c
