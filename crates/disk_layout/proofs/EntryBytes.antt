-- A directory entry is spelled in one way, and its bytes are the bytes of its fields.
use Rattle.std.proofs.Common.{◌≡◌, ◌≢◌, ℕ, ◌-◌, ◌^◌, ◌<◌, ◌≤◌, List, ◌∷◌, ◌++◌, length, get_or, take, drop, replicate, Option, Some, None, Result, Ok, sym, ap, subst, ◌∙◌, arith, inl, inr}
use Rattle.std.specs.Prelude.{IfSome}
use Rattle.std.specs.Int.{w32, to_be_bytes}
use Rattle.std.proofs.lemmas.Bool.{cases_lt}
use Rattle.std.proofs.lemmas.List.{length-replicate, length-drop, length-take, length-append, take_all, drop_more, get_or-take, get_or_past, take-append-drop}
use Rattle.kabi_types.specs.declared.inodes.DirEntry.{DirEntry}
use Rattle.disk_layout.specs.declared.faults.BadEntry.{BadEntry}
use Rattle.posix_defs.specs.DiskFormat.{IsName, IsEntry, entry_bytes}
use Rattle.disk_layout.proofs.WordBytes.{cut, all_zeros}

pub made_entry : ℕ → List ℕ → DirEntry
made_entry node name = record { node = node; name = name }

pub same_entry : (node : ℕ) (name : List ℕ) (e : DirEntry) → node ≡ e.node → name ≡ e.name → record { node = node; name = name } ≡ e
unfolding made_entry
same_entry node name e p q = ap (λ (n : ℕ). made_entry n name) p ∙ ap (λ (n : List ℕ). made_entry e.node n) q

answer : DirEntry → Result DirEntry BadEntry
answer entry = Ok entry

abbrev pub answered : Result DirEntry BadEntry → Result DirEntry BadEntry → Type 0
answered a b = a ≡ b

pub same_answer : (node : ℕ) (name : List ℕ) (e : DirEntry) → node ≡ e.node → name ≡ e.name → answered (Ok (record { node = node; name = name })) (Ok e)
unfolding answer
same_answer node name e p q = ap answer (same_entry node name e p q)

-- a name that stands in front of zeros
pub name_found : (field : List ℕ) (len : ℕ) (front behind : List ℕ) (o : Option (List ℕ)) → length field ≡ 27 → 0 < len → len ≤ 27 → front ≡ take len field → behind ≡ drop len field
    → ((k : ℕ) → get_or field k 0 < 2 ^ 8) → ((k : ℕ) → k < length front → (get_or front k 0 ≢ 0) × (get_or front k 0 ≢ 47)) → ((k : ℕ) → k < length behind → get_or behind k 0 ≡ 0)
    → IfSome o (λ name. name ≡ front) → IfSome o (λ name. IsName name × (length name ≡ len) × (field ≡ name ++ replicate (27 - len) 0))
name_found field len front behind None full pos le is_front is_behind fits chars zeros same = tt
name_found field len front behind (Some name) full pos le is_front is_behind fits chars zeros same =
    let long : length front ≡ len = ap length is_front ∙ omega (arith, length-take len field) in
    let small : (k : ℕ) → get_or front k 0 < 2 ^ 8 = λ k.
    elim (cases_lt k len) [
      | inl lt ↦ rw (is_front, get_or-take len field k 0 lt) (fits k)
      | inr past ↦ rw (get_or_past front k 0 (omega (arith, long))) (omega arith)
    ]
    in
    let rest : behind ≡ replicate (27 - len) 0 = all_zeros behind (27 - len) (ap length is_behind ∙ omega (arith, length-drop len field)) zeros in
    let whole : field ≡ front ++ replicate (27 - len) 0 = sym (take-append-drop len field) ∙ ap (λ (x : List ℕ). x ++ drop len field) (sym is_front) ∙ ap (λ (x : List ℕ). front ++ x) (sym is_behind ∙ rest) in
    let is_name : IsName front = record { len = (omega (arith, long), omega (arith, long)); fits = small; chars = chars } in
    subst (λ (n : List ℕ). IsName n × (length n ≡ len) × (field ≡ n ++ replicate (27 - len) 0)) (sym same) (is_name, long, whole)

pub entry_found : (bytes : List ℕ) (node : ℕ) (name : List ℕ) → length bytes ≡ 32 → to_be_bytes w32 node ≡ take 4 bytes → length name ≡ get_or bytes 4 0
    → take 27 (drop 5 bytes) ≡ name ++ replicate (27 - get_or bytes 4 0) 0 → bytes ≡ entry_bytes (record { node = node; name = name })
unfolding entry_bytes
entry_found bytes node name long head len field =
    let rest : drop 5 bytes ≡ name ++ replicate (27 - length name) 0 = sym (take_all 27 (drop 5 bytes) (omega (arith, length-drop 5 bytes))) ∙ field ∙ ap (λ (n : ℕ). name ++ replicate (27 - n) 0) (sym len) in
    let behind : drop 4 bytes ≡ length name ∷ (name ++ replicate (27 - length name) 0) = drop_more bytes 4 0 (omega arith) ∙ ap (λ (n : ℕ). n ∷ drop 5 bytes) (sym len) ∙ ap (λ (x : List ℕ). length name ∷ x) rest in
    cut 0 4 bytes ∙ ap (λ (x : List ℕ). x ++ drop 4 bytes) (sym head) ∙ ap (λ (x : List ℕ). to_be_bytes w32 node ++ x) behind

-- what stands where, in the bytes of an entry
pub entry_fields : (bytes : List ℕ) (e : DirEntry) → IsEntry e → bytes ≡ entry_bytes e → (take 4 bytes ≡ to_be_bytes w32 e.node) × (length e.name ≡ get_or bytes 4 0) × (take 27 (drop 5 bytes) ≡ e.name ++ replicate (27 - get_or bytes 4 0) 0)
unfolding entry_bytes
entry_fields bytes e is eq =
    let zeros : List ℕ = replicate (27 - length e.name) 0 in
    let len : length e.name ≡ get_or bytes 4 0 = ap (λ (x : List ℕ). get_or x 4 0) (sym eq) in
    let full : length (e.name ++ zeros) ≤ 27 = omega (arith, length-append e.name zeros, length-replicate {A = ℕ} (27 - length e.name) 0, is.name.len.1) in
    (ap (take 4) eq, len, ap (λ (x : List ℕ). take 27 (drop 5 x)) eq ∙ take_all 27 (e.name ++ zeros) full ∙ ap (λ (n : ℕ). e.name ++ replicate (27 - n) 0) len)
