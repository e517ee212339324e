-- The latest store before a load, system by system and statement by statement.
use Rattle.std.proofs.Common.{◌≡◌, ℕ, ◌-◌, ◌<◌, ℤ, true, false, List, [], ◌∷◌, ◌++◌, length, get_or, Option, Some, None, refl, sym, ap, subst, ◌∙◌, ◌⊎◌, inl, inr, arith}
use Rattle.std.specs.Prelude.{slice_get}
use Rattle.std.proofs.lemmas.Option.{same_Some, slice_get_read}
use Rattle.affc_system.specs.Systems.{Rows}
use Rattle.affc_ast.specs.declared.tree.Instance.{Instance}
use Rattle.affc_ast.specs.declared.tree.Program.{Program}
use Rattle.affc_ast.specs.Store.{Element}
use Rattle.affc_ast.specs.Trace.{trace, store_of}
use Rattle.affc_trace.specs.Dataflow.{IsSource}
use Rattle.affc_trace.specs.Law.{IsIn}
use Rattle.affc_trace.specs.Orders.{Earlier}
use Rattle.affc_trace.proofs.Legality.{earlier_is_in}
use Rattle.affc_trace.proofs.Members.{to_first, to_second}
use Rattle.affc_trace.proofs.Once.{in_append}
use Rattle.affc_domain.proofs.Lists.{stands_in}
use Rattle.affc_nest.specs.declared.nest.Access.{Access}
use Rattle.affc_nest.specs.declared.nest.Entry.{Entry}
use Rattle.affc_nest.specs.declared.nest.Nest.{Nest}
use Rattle.affc_nest.specs.Laws.{element_at}
use Rattle.affc_nest.specs.Nests.{nest_of}
use Rattle.affc_order.specs.Systems.{source_systems}
use Rattle.affc_sched.proofs.LegalLemmas.{Stood, stood, entry_at}
use Rattle.affc_quast.specs.Sources.{loads_in}
use Rattle.affc_latest.specs.Latest.{IsLatest}
use Rattle.affc_flow.specs.Laws.{Loads}
use Rattle.affc_flow.specs.Questions.{store_of_entry}
use Rattle.affc_flow.specs.Writers.{Writes}
use Rattle.affc_latest.specs.Stores.{StoresBefore, StoredIn, IsStoreBy, StoresBy, IsLatestBy, IsLatestAmong, IsLaterOf}
use Rattle.affc_latest.proofs.LastLemmas.{is_stored}
use Rattle.affc_latest.proofs.LaterLemmas.{same_latest, later_joined}
use Rattle.affc_latest.proofs.LatestLemmas.{latest_is_source}
use Rattle.affc_flow.proofs.PathLemmas.{parameters_are}
use Rattle.affc_latest.proofs.StoreLemmas.{stores_point}
use Rattle.affc_flow.proofs.WriterLemmas.{stored_there}

abbrev reader_of : Entry → List ℤ → Instance
reader_of e its = record { statement = e.part; iterators = its }

-- ---- Systems of the order

pub none_by : (nest : Nest) (v e : Entry) (y x : Access) (p its : List ℤ) (orders : List Rows) → length orders ≡ 0 → IsLatestBy nest v e y x p its orders None
none_by nest v e y x p its [] l = λ program is h w s. absurd s.1
none_by nest v e y x p its (o ∷ orders) l = absurd (omega (arith, l))

pub one_by : (nest : Nest) (v e : Entry) (y x : Access) (p its : List ℤ) (order : Rows) (found : Option Instance)
    → ((program : Program) → nest ≡ nest_of program → Loads program p its e x → IsLatest (trace program p) (IsStoreBy nest program p its v e y x order) found) → IsLatestBy nest v e y x p its (order ∷ []) found
one_by nest v e y x p its order found h program is loads =
    same_latest (trace program p) (IsStoreBy nest program p its v e y x order) (StoresBy nest program p its v e y x (order ∷ [])) (λ w s. (order, inl refl, s)) (λ w s. alone w s.0 s.1 s.2) found (h program is loads)
  where
    alone : (w : Instance) (o : Rows) → IsIn o (order ∷ []) → IsStoreBy nest program p its v e y x o w → IsStoreBy nest program p its v e y x order w
    alone w o (inl q) s = subst (λ z. IsStoreBy nest program p its v e y x z w) q s
    alone w o (inr b) s = absurd b

pub order_joined : (nest : Nest) (v e : Entry) (y x : Access) (p its : List ℤ) (order : Rows) (rest orders : List Rows) (here others latest : Option Instance) → orders ≡ order ∷ rest
    → IsLatestBy nest v e y x p its (order ∷ []) here → IsLatestBy nest v e y x p its rest others → IsLaterOf nest p here others latest → IsLatestBy nest v e y x p its orders latest
order_joined nest v e y x p its order rest orders here others latest q a b l program is h =
    subst (λ os. IsLatest (trace program p) (StoresBy nest program p its v e y x os) latest) (sym q)
    (same_latest (trace program p) (λ w. StoresBy nest program p its v e y x (order ∷ []) w ⊎ StoresBy nest program p its v e y x rest w) (StoresBy nest program p its v e y x (order ∷ rest)) to (λ w s. from w s.0 s.1 s.2) latest
    (later_joined nest program p is h.has (StoresBy nest program p its v e y x (order ∷ [])) (StoresBy nest program p its v e y x rest) (λ w s. s.2.runs) (λ w s. s.2.runs) here others latest (a program is h) (b program is h) l))
  where
    first : (o : Rows) → IsIn o (order ∷ []) → IsIn o (order ∷ rest)
    first o (inl e) = inl e
    first o (inr b) = absurd b

    to : (w : Instance) → StoresBy nest program p its v e y x (order ∷ []) w ⊎ StoresBy nest program p its v e y x rest w → StoresBy nest program p its v e y x (order ∷ rest) w
    to w (inl s) = (s.0, first s.0 s.1, s.2)
    to w (inr s) = (s.0, inr s.1, s.2)

    from : (w : Instance) (o : Rows) → IsIn o (order ∷ rest) → IsStoreBy nest program p its v e y x o w → StoresBy nest program p its v e y x (order ∷ []) w ⊎ StoresBy nest program p its v e y x rest w
    from w o (inl e) s = inl (o, inl e, s)
    from w o (inr i) s = inr (o, i, s)

-- ---- Statements

pub none_among : (nest : Nest) (e : Entry) (x : Access) (p its : List ℤ) (entries : List Entry) → length entries ≡ 0 → IsLatestAmong nest e x p its entries None
none_among nest e x p its [] l = λ program is h w s. absurd s.1
none_among nest e x p its (v ∷ entries) l = absurd (omega (arith, l))

-- a statement with a store before the load stores the array
writes_of : (program : Program) (p its : List ℤ) (e : Entry) (x : Access) → Loads program p its e x → (v : Entry) → IsIn v (nest_of program).entries → (w : Instance)
    → StoresBefore program p (record { statement = e.part; iterators = its }) (element_at (p ++ its) x) v w → (y : Access) × Writes (nest_of program) x.array.0 v y
writes_of program p its e x h v i w q =
    let r = stood program h.has p w h.context q.runs in
    let same : r.0 ≡ v = same_Some r.0 v (sym (subst (λ k. slice_get (nest_of program).entries k ≡ Some r.0) (r.1 ∙ q.statement) r.2.at) ∙ entry_at program h.has v i) in
    let t : Stood program p v w.iterators = subst (λ v. Stood program p v w.iterators) same r.2 in
    let s = stored_there program h.has p (parameters_are program p its e x h) v w.iterators t in
    let is : w ≡ record { statement = v.part; iterators = w.iterators } = λ i. record { statement = q.statement i; iterators = w.iterators } in
    let element : element_at (p ++ w.iterators) s.access ≡ element_at (p ++ its) x = s.is ∙ sym (ap (store_of program p) is) ∙ sym q.stores in
    (s.access, record { among = i; alive = t.alive; last = s.last; of_array = ap (λ (z : Element). z.0) element })

pub no_writer : (nest : Nest) (e : Entry) (x : Access) (p its : List ℤ) (v : Entry) → IsIn v nest.entries → ((y : Access) → Writes nest x.array.0 v y → ⊥) → IsLatestAmong nest e x p its (v ∷ []) None
no_writer nest e x p its v i never = λ program is h w s.
    let j : IsIn v (nest_of program).entries = subst (λ (n : Nest). IsIn v n.entries) is i in
    let r = writes_of program p its e x h v j w (alone program w s.0 s.1 s.2) in
    never r.0 (subst (λ n. Writes n x.array.0 v r.0) (sym is) r.1)
  where
    alone : (program : Program) (w : Instance) (u : Entry) → IsIn u (v ∷ []) → StoresBefore program p (reader_of e its) (element_at (p ++ its) x) u w → StoresBefore program p (reader_of e its) (element_at (p ++ its) x) v w
    alone program w u (inl q) s = subst (λ z. StoresBefore program p (reader_of e its) (element_at (p ++ its) x) z w) q s
    alone program w u (inr b) s = absurd b

pub dead_writer : (nest : Nest) (array : ℕ) (v : Entry) → v.alive ≡ false → (y : Access) → Writes nest array v y → ⊥
dead_writer nest array v e y w = let t : v.alive ≡ true = w.alive in absurd (cc)

pub bare_writer : (nest : Nest) (array : ℕ) (v : Entry) (accesses : List Access) → accesses ≡ v.accesses → length accesses ≡ 0 → (y : Access) → Writes nest array v y → ⊥
bare_writer nest array v accesses e l y w = empty v.accesses (ap length (sym e) ∙ l) (length v.accesses - 1) w.last
  where
    empty : (xs : List Access) → length xs ≡ 0 → (k : ℕ) → slice_get xs k ≡ Some y → ⊥
    empty [] l k e = absurd (cc)
    empty (x ∷ xs) l k e = absurd (omega (arith, l))

-- the last access
pub last_access : (v : Entry) (accesses : List Access) (k : ℕ) (y : Access) → accesses ≡ v.accesses → k ≡ length accesses - 1 → k < length accesses → y ≡ get_or accesses k y → store_of_entry v ≡ Some y
last_access v accesses k y e l b g =
    subst (λ n. slice_get v.accesses n ≡ Some y) (l ∙ ap (λ xs. length xs - 1) e)
    (subst (λ xs. slice_get xs k ≡ Some y) e (slice_get_read accesses (length accesses) k y refl b g))

pub other_writer : (nest : Nest) (array : ℕ) (v : Entry) (y : Access) → store_of_entry v ≡ Some y → (y.array.0 ≡ array → ⊥) → (z : Access) → Writes nest array v z → ⊥
other_writer nest array v y e n z w = n (ap (λ (a : Access). a.array.0) (same_Some y z (sym e ∙ w.last)) ∙ w.of_array)

-- all systems of the order are asked: those are all stores of the statement
pub all_orders : (nest : Nest) (v e : Entry) (y x : Access) (p its : List ℤ) (orders : List Rows) (found : Option Instance) → Writes nest x.array.0 v y → orders ≡ source_systems nest v.part e.part
    → IsLatestBy nest v e y x p its orders found → IsLatestAmong nest e x p its (v ∷ []) found
all_orders nest v e y x p its orders found writes o l program is h =
    at_nest (subst (λ n. Writes n x.array.0 v y) is writes)
    (subst (λ n. IsLatest (trace program p) (StoresBy n program p its v e y x (source_systems n v.part e.part)) found) is
    (subst (λ os. IsLatest (trace program p) (StoresBy nest program p its v e y x os) found) o (l program is h)))
  where
    to : (w : Writes (nest_of program) x.array.0 v y) → IsIn y v.accesses → (u : Instance) (o : Rows) → IsIn o (source_systems (nest_of program) v.part e.part) → IsStoreBy (nest_of program) program p its v e y x o u
        → StoresBefore program p (reader_of e its) (element_at (p ++ its) x) v u
    to w made u o i s =
        subst (StoresBefore program p (reader_of e its) (element_at (p ++ its) x) v) (λ i. record { statement = sym s.statement i; iterators = u.iterators })
        (is_stored program p its e x h v y w made o i u s)

    from : (w : Writes (nest_of program) x.array.0 v y) → IsIn y v.accesses → (u : Instance) (z : Entry) → IsIn z (v ∷ []) → StoresBefore program p (reader_of e its) (element_at (p ++ its) x) z u
        → StoresBy (nest_of program) program p its v e y x (source_systems (nest_of program) v.part e.part) u
    from w made u z (inl q) s =
        let s' : StoresBefore program p (reader_of e its) (element_at (p ++ its) x) v u = subst (λ a. StoresBefore program p (reader_of e its) (element_at (p ++ its) x) a u) q s in
        let f = stores_point program p its e x h v y w made u s' in
        (f.order, f.there, record { statement = s'.statement; long = f.long; runs = s'.runs; point = f.point })
    from w made u z (inr b) s = absurd b

    at_nest : Writes (nest_of program) x.array.0 v y
        → IsLatest (trace program p) (StoresBy (nest_of program) program p its v e y x (source_systems (nest_of program) v.part e.part)) found
        → IsLatest (trace program p) (StoredIn program p (reader_of e its) (element_at (p ++ its) x) (v ∷ [])) found
    at_nest w k =
        let made : IsIn y v.accesses = stands_in v.accesses (loads_in v) y w.last in
        same_latest (trace program p) (StoresBy (nest_of program) program p its v e y x (source_systems (nest_of program) v.part e.part))
        (StoredIn program p (reader_of e its) (element_at (p ++ its) x) (v ∷ [])) (λ u s. (v, inl refl, to w made u s.0 s.1 s.2)) (λ u s. from w made u s.0 s.1 s.2) found k

abbrev Stored : Program → (p its : List ℤ) → Entry → Access → List Entry → Instance → Type 0
Stored program p its e x es w = StoredIn program p (reader_of e its) (element_at (p ++ its) x) es w

-- those of the first few, and those of the others
pub parts_joined : (nest : Nest) (e : Entry) (x : Access) (p its : List ℤ) (entries first others : List Entry) (here there latest : Option Instance) → entries ≡ first ++ others
    → IsLatestAmong nest e x p its first here → IsLatestAmong nest e x p its others there → IsLaterOf nest p here there latest → IsLatestAmong nest e x p its entries latest
parts_joined nest e x p its entries first others here there latest both a b l program is h =
    subst (λ es. IsLatest (trace program p) (Stored program p its e x es) latest) (sym both)
    (same_latest (trace program p) (λ w. Stored program p its e x first w ⊎ Stored program p its e x others w) (Stored program p its e x (first ++ others)) to (λ w s. from w s.0 s.1 s.2) latest
    (later_joined nest program p is h.has (Stored program p its e x first) (Stored program p its e x others) (λ w s. s.2.runs) (λ w s. s.2.runs) here there latest (a program is h) (b program is h) l))
  where
    to : (w : Instance) → Stored program p its e x first w ⊎ Stored program p its e x others w → Stored program p its e x (first ++ others) w
    to w (inl s) = (s.0, to_first first others s.0 s.1, s.2)
    to w (inr s) = (s.0, to_second first others s.0 s.1, s.2)

    from : (w : Instance) (u : Entry) → IsIn u (first ++ others) → StoresBefore program p (reader_of e its) (element_at (p ++ its) x) u w → Stored program p its e x first w ⊎ Stored program p its e x others w
    from w u i s = elim (in_append first others u i) [
      | inl j ↦ inl (u, j, s)
      | inr j ↦ inr (u, j, s)
    ]

-- ---- All statements

-- the latest store of any statement is the source
pub among_all : (nest : Nest) (e : Entry) (x : Access) (p its : List ℤ) (entries : List Entry) (found : Option Instance) → entries ≡ nest.entries → IsLatestAmong nest e x p its entries found
    → (program : Program) → nest ≡ nest_of program → Loads program p its e x → IsSource program p (record { statement = e.part; iterators = its }) (element_at (p ++ its) x) found
among_all nest e x p its entries found all l program is h =
    latest_is_source program p (reader_of e its) (element_at (p ++ its) x) h.runs found
    (same_latest (trace program p) (StoredIn program p (reader_of e its) (element_at (p ++ its) x) (nest_of program).entries)
    (λ w. (element_at (p ++ its) x ≡ store_of program p w) × Earlier (trace program p) w (reader_of e its)) (λ w s. (s.2.stores, s.2.earlier)) (λ w s. of_entry w s.0 s.1) found
    (subst (λ es. IsLatest (trace program p) (StoredIn program p (reader_of e its) (element_at (p ++ its) x) es) found) (all ∙ ap (λ (n : Nest). n.entries) is) (l program is h)))
  where
    of_entry : (w : Instance) → element_at (p ++ its) x ≡ store_of program p w → Earlier (trace program p) w (reader_of e its) → StoredIn program p (reader_of e its) (element_at (p ++ its) x) (nest_of program).entries w
    of_entry w s k =
        let i : IsIn w (trace program p) = earlier_is_in (trace program p) w (reader_of e its) k in
        let r = stood program h.has p w h.context i in
        (r.0, r.2.among, record { statement = sym r.1; runs = i; stores = s; earlier = k })
