-- What is answered where a text or its items are refused: want of memory stands by itself.
use Rattle.affc_cert.specs.declared.cert.CertFault.{CertFault}
use Rattle.affc_cert.specs.declared.cert.CertFault.TheVariants as text
use Rattle.affc_check.specs.declared.fault.CheckFault.{CheckFault}
use Rattle.affc_check.specs.declared.fault.CheckFault.TheVariants as items
use Rattle.affc_accept.specs.declared.fault.AcceptFault.{AcceptFault}
use Rattle.affc_accept.specs.declared.fault.AcceptFault.TheVariants.{Certificate, Check, Memory}

abbrev pub text_fault : CertFault → AcceptFault
text_fault text.Json = Certificate text.Json
text_fault text.Version = Certificate text.Version
text_fault (text.Shape part) = Certificate (text.Shape part)
text_fault (text.Number part) = Certificate (text.Number part)
text_fault text.Memory = Memory

-- it is of a text, or want of memory, and of no item
abbrev pub IsOfText : AcceptFault → Type 0
IsOfText (Certificate fault) = Unit {0}
IsOfText (Check fault) = ⊥
IsOfText Memory = Unit {0}

abbrev pub items_fault : CheckFault → AcceptFault
items_fault (items.Number part) = Check (items.Number part)
items_fault (items.Proof item) = Check (items.Proof item)
items_fault (items.Shown item) = Check (items.Shown item)
items_fault items.Memory = Memory
