-- What files in memory hold after one of them changes.
use Rattle.std.proofs.Common.{◌≡◌, ◌≢◌, ◌<◌, ◌≤◌, ◌+◌, ◌++◌, Result, Ok, Err, IfOk, ℕ, zero, suc, List, [], ◌∷◌, map, Option, None, Some, Bool, true, false, cond, length, take, get_or, Vec, String, string_bytes, refl, sym, ap, ◌∙◌, subst, arith, add-one}
use Rattle.std.proofs.Math.ListN.{set}
use Rattle.std.specs.Str.{bytes_eq}
use Rattle.std.specs.declared.alloc.Global.{Global}
use Rattle.std.proofs.lemmas.Slice.Eq.{bytes_eq-Decides}
use Rattle.affc_io.specs.Memory.{NamedFile, held_in, IsFirst, named_bytes, stored}
use Rattle.affc_io.specs.Parts.{emptied}

same_name : (xs ys : List ℕ) → xs ≡ ys → bytes_eq xs ys ≡ true
same_name xs ys e = (bytes_eq-Decides xs ys).1 e

other_at : (b : Bool) (xs ys : List ℕ) → (b ≡ true → xs ≡ ys) → xs ≢ ys → b ≡ false
other_at true xs ys h ne = absurd (ne (h refl))
other_at false xs ys h ne = refl

other_name : (xs ys : List ℕ) → xs ≢ ys → bytes_eq xs ys ≡ false
other_name xs ys ne = other_at _ xs ys (bytes_eq-Decides xs ys).0 ne

none_of : (b : Bool) (v : List ℕ) (o : Option (List ℕ)) → cond b (Some v) o ≡ None → (b ≡ false) × (o ≡ None)
none_of true v o h = cc
none_of false v o h = (refl, h)

pub first-held : (files : List NamedFile) (i : ℕ) (name : List ℕ) (d : NamedFile)
    → i < length files → held_in (take i files) name ≡ None → string_bytes (get_or files i d).0 ≡ name
    → held_in files name ≡ Some (get_or files i d).1.items
first-held [] i name d lt none e = absurd (omega arith)
first-held (file ∷ files) zero name d lt none e = rw (same_name _ _ e) refl
first-held (file ∷ files) (suc i) name d lt none e =
    let p = none_of (bytes_eq (string_bytes file.0) name) file.1.items (held_in (take i files) name) none
    in rw (p.0) (first-held files i name d (omega arith) p.1 e)

pub set-held : (files : List NamedFile) (i : ℕ) (name : List ℕ) (n : String Global) (v : Vec ℕ Global)
    → i < length files → held_in (take i files) name ≡ None → string_bytes n ≡ name
    → held_in (set files i (n, v)) name ≡ Some v.items
set-held [] i name n v lt none e = absurd (omega arith)
set-held (file ∷ files) zero name n v lt none e = rw (same_name _ _ e) refl
set-held (file ∷ files) (suc i) name n v lt none e =
    let p = none_of (bytes_eq (string_bytes file.0) name) file.1.items (held_in (take i files) name) none
    in rw (p.0) (set-held files i name n v (omega arith) p.1 e)

pub set-other : (files : List NamedFile) (i : ℕ) (name other : List ℕ) (n : String Global) (v : Vec ℕ Global) (d : NamedFile)
    → string_bytes (get_or files i d).0 ≡ name → string_bytes n ≡ name → other ≢ name
    → held_in (set files i (n, v)) other ≡ held_in files other
set-other [] i name other n v d was e ne = refl
set-other (file ∷ files) zero name other n v d was e ne =
    rw (other_name (string_bytes n) other (λ h. ne (sym h ∙ e)), other_name (string_bytes file.0) other (λ h. ne (sym h ∙ was))) refl
set-other (file ∷ files) (suc i) name other n v d was e ne =
    ap (cond (bytes_eq (string_bytes file.0) other) (Some file.1.items)) (set-other files i name other n v d was e ne)

pub push-held : (files : List NamedFile) (name : List ℕ) (n : String Global) (v : Vec ℕ Global)
    → held_in files name ≡ None → string_bytes n ≡ name
    → held_in (files ++ (n, v) ∷ []) name ≡ Some v.items
push-held [] name n v none e = rw (same_name _ _ e) refl
push-held (file ∷ files) name n v none e =
    let p = none_of (bytes_eq (string_bytes file.0) name) file.1.items (held_in files name) none
    in rw (p.0) (push-held files name n v p.1 e)

pub push-other : (files : List NamedFile) (name other : List ℕ) (n : String Global) (v : Vec ℕ Global)
    → string_bytes n ≡ name → other ≢ name
    → held_in (files ++ (n, v) ∷ []) other ≡ held_in files other
push-other [] name other n v e ne = rw (other_name (string_bytes n) other (λ h. ne (sym h ∙ e))) refl
push-other (file ∷ files) name other n v e ne =
    ap (cond (bytes_eq (string_bytes file.0) other) (Some file.1.items)) (push-other files name other n v e ne)

pub set-stored : (files : List NamedFile) (i : ℕ) (name : List ℕ) (n : String Global) (v : Vec ℕ Global) (d : NamedFile)
    → i < length files → held_in (take i files) name ≡ None → string_bytes n ≡ name → string_bytes (get_or files i d).0 ≡ name
    → map named_bytes (set files i (n, v)) ≡ stored (map named_bytes files) name v.items
set-stored [] i name n v d lt none e was = absurd (omega arith)
set-stored (file ∷ files) zero name n v d lt none e was = rw (same_name _ _ was, e) refl
set-stored (file ∷ files) (suc i) name n v d lt none e was =
    let p = none_of (bytes_eq (string_bytes file.0) name) file.1.items (held_in (take i files) name) none
    in rw (p.0) (ap (λ l. named_bytes file ∷ l) (set-stored files i name n v d (omega arith) p.1 e was))

pub push-stored : (files : List NamedFile) (name : List ℕ) (n : String Global) (v : Vec ℕ Global)
    → held_in files name ≡ None → string_bytes n ≡ name
    → map named_bytes (files ++ (n, v) ∷ []) ≡ stored (map named_bytes files) name v.items
push-stored [] name n v none e = ap (λ l. (l, v.items) ∷ []) e
push-stored (file ∷ files) name n v none e =
    let p = none_of (bytes_eq (string_bytes file.0) name) file.1.items (held_in files name) none
    in rw (p.0) (ap (λ l. named_bytes file ∷ l) (push-stored files name n v p.1 e))

step-none : (files : List NamedFile) (i : ℕ) (name : List ℕ) (d : NamedFile)
    → i < length files → held_in (take i files) name ≡ None → string_bytes (get_or files i d).0 ≢ name
    → held_in (take (suc i) files) name ≡ None
step-none [] i name d lt none ne = refl
step-none (file ∷ files) zero name d lt none ne = rw (other_name _ _ ne) refl
step-none (file ∷ files) (suc i) name d lt none ne =
    let p = none_of (bytes_eq (string_bytes file.0) name) file.1.items (held_in (take i files) name) none
    in rw (p.0) (step-none files i name d (omega arith) p.1 ne)

pub next-none : (files : List NamedFile) (i : ℕ) (name : List ℕ) (d : NamedFile)
    → i < length files → held_in (take i files) name ≡ None → string_bytes (get_or files i d).0 ≢ name
    → held_in (take (i + 1) files) name ≡ None
next-none files i name d lt none ne = rw add-one (step-none files i name d lt none ne)

default_free : (files : List NamedFile) (i : ℕ) (d e : NamedFile) → i < length files → get_or files i d ≡ get_or files i e
default_free [] i d e lt = absurd (omega arith)
default_free (file ∷ files) zero d e lt = refl
default_free (file ∷ files) (suc i) d e lt = default_free files i d e (omega arith)

-- the file that stands at the place has the name
pub named_at : (files : List NamedFile) (i : ℕ) (name : List ℕ) (file d : NamedFile)
    → i < length files → file ≡ get_or files i file → string_bytes file.0 ≡ name → string_bytes (get_or files i d).0 ≡ name
named_at files i name file d lt is e = ap (λ f. string_bytes f.0) (default_free files i d file lt ∙ sym is) ∙ e

-- what `==` on a name said
pub is_name : (text name own : List ℕ) (b : Bool) → b ≡ bytes_eq text name → b ≡ true → text ≡ own → own ≡ name
is_name text name own b e holds same = sym same ∙ (bytes_eq-Decides text name).0 (sym e ∙ holds)

pub not_name : (text name own : List ℕ) (b : Bool) → b ≡ bytes_eq text name → b ≡ false → text ≡ own → own ≢ name
not_name text name own b e fails same h =
    let holds : bytes_eq text name ≡ true = same_name text name (same ∙ h)
    in cc

-- the first file with the name has other bytes now
pub record Refilled (files : List NamedFile) (i : ℕ) (name : List ℕ) (file : NamedFile) (v : Vec ℕ Global) : Type 0 where
  pub at_name : held_in (set files i (file.0, v)) name ≡ Some v.items
  pub if_empty : v.items ≡ [] → held_in (set files i (file.0, v)) name ≡ emptied (held_in files name)
  pub others : (other : List ℕ) → other ≢ name → held_in (set files i (file.0, v)) other ≡ held_in files other
  pub order : map named_bytes (set files i (file.0, v)) ≡ stored (map named_bytes files) name v.items

refilled_at : (files : List NamedFile) (i : ℕ) (name : List ℕ) (file : NamedFile) (v : Vec ℕ Global)
    → IsFirst files i name → file ≡ get_or files i file → Refilled files i name file v
refilled_at files i name file v first is =
    let named : string_bytes file.0 ≡ name = ap (λ f. string_bytes f.0) is ∙ first.named file in
    let held : held_in (set files i (file.0, v)) name ≡ Some v.items =
    set-held files i name file.0 v first.placed first.before named
    in record {
      at_name = held;
      if_empty = λ e. held ∙ ap Some e ∙ sym (ap emptied (first-held files i name file first.placed first.before (first.named file)));
      others = λ other ne. set-other files i name other file.0 v file (first.named file) named ne;
      order = set-stored files i name file.0 v file first.placed first.before named (first.named file);
    }

pub refilled : (slice files : List NamedFile) (i : ℕ) (name : List ℕ) (file : NamedFile) (v : Vec ℕ Global)
    → slice ≡ files → IsFirst slice i name → file ≡ get_or files i file → Refilled files i name file v
refilled slice files i name file v e first is =
    let P : List NamedFile → Type 0 = λ s. IsFirst s i name in refilled_at files i name file v (subst P e first) is

-- a file more, of a name that wasn't held
pub record Pushed (files new : List NamedFile) (name bytes : List ℕ) : Type 0 where
  pub at_name : held_in new name ≡ Some bytes
  pub others : (other : List ℕ) → other ≢ name → held_in new other ≡ held_in files other
  pub order : map named_bytes new ≡ stored (map named_bytes files) name bytes

pub pushed : (slice files new : List NamedFile) (name bytes : List ℕ) (n : String Global) (v : Vec ℕ Global)
    → slice ≡ files → new ≡ files ++ (n, v) ∷ [] → held_in slice name ≡ None → string_bytes n ≡ name → v.items ≡ bytes
    → Pushed files new name bytes
pushed slice files new name bytes n v s e none named is = record {
  at_name = rw e (push-held files name n v (ap (λ f. held_in f name) (sym s) ∙ none) named ∙ ap Some is);
  others = λ other ne. rw e (push-other files name other n v named ne);
  order = rw (e, sym is) (push-stored files name n v (ap (λ f. held_in f name) (sym s) ∙ none) named);
}

-- what the first file with the name says of a look-up
pub found_at : (files : List NamedFile) (i : ℕ) (name : List ℕ) (file : NamedFile) (bytes : List ℕ)
    → IsFirst files i name → bytes ≡ (get_or files i file).1.items → held_in files name ≡ Some bytes
found_at files i name file bytes first e =
    first-held files i name file first.placed first.before (first.named file) ∙ ap Some (sym e)

-- a copy of what is held is what is held
pub copied_holds : {E : Type 0} (r : Result (Vec ℕ Global) E) (files : List NamedFile) (name bytes : List ℕ) (n : ℕ)
    → held_in files name ≡ Some bytes → IfOk r (λ copy. (copy.items ≡ bytes) × (length bytes ≤ n))
    → IfOk r (λ copy. held_in files name ≡ Some copy.items)
copied_holds (Ok copy) files name bytes n held e = held ∙ ap Some (sym e.0)
copied_holds (Err fault) files name bytes n held e = tt
