-- Bytes that are put one piece after another.
use Rattle.std.proofs.Common.{◌≡◌, ℕ, ◌+◌, ◌-◌, ◌<◌, true, false, List, ◌++◌, length, take, drop, Option, None, Some, Result, Ok, Err, ap, sym, ◌∙◌, subst, append_assoc}
use Rattle.std.specs.Prelude.{OnOk, OnErr}
use Rattle.std.proofs.Math.Seq.{take-add}
use Rattle.std.proofs.lemmas.List.{take_rest, drop-drop}
use Rattle.std.specs.Io.KnownBytes.{Appends}
use Rattle.kio_ports.specs.Faults.{HasRisen}
use Rattle.kres_tool.specs.Tool.{HasPut, Output}

-- what grew twice grew by both
pub Appends-join : (old mid new : Option (List ℕ)) (xs ys : List ℕ) → Appends old mid xs → Appends mid new ys → Appends old new (xs ++ ys)
Appends-join None mid new xs ys first second = tt
Appends-join (Some held) None new xs ys first second = absurd first
Appends-join (Some held) (Some mid) None xs ys first second = absurd second
Appends-join (Some held) (Some mid) (Some new) xs ys first second = second ∙ ap (λ bytes. bytes ++ ys) first ∙ append_assoc held xs ys

-- one more piece of a text was put
pub put_more : (old mid new : Option (List ℕ)) (text left : List ℕ) (put count : ℕ) → left ≡ drop put text
    → Appends old mid (take put text) → Appends mid new (take count left) → Appends old new (take (put + count) text)
put_more old mid new text left put count rest first second =
    subst (Appends old new) (ap (λ l. take put text ++ take count l) rest ∙ sym (take-add put count text))
    (Appends-join old mid new (take put text) (take count left) first second)

-- what is left then
pub left_more : (text left : List ℕ) (put count : ℕ) → left ≡ drop put text → take (length left - count) (drop count left) ≡ drop (put + count) text
left_more text left put count rest = take_rest left count ∙ ap (drop count) rest ∙ drop-drop count put text

-- what was put is known, whole or up to a fault
pub has_put : {X E : Type 0} (o : Output) (whole : List ℕ) (answer : Result X E)
    → OnOk answer (Appends o.held o.held' whole) → OnOk answer (o.offered whole true)
    → OnOk answer (o.puts' ≡ o.puts) → OnErr answer ((n : ℕ) × (n < length whole) × Appends o.held o.held' (take n whole)) → OnErr answer (o.offered whole false)
    → OnErr answer (HasRisen o.puts o.puts') → HasPut o whole answer
has_put o whole (Ok x) written offered no_fault begun part fault = (written, offered, no_fault)
has_put o whole (Err e) written offered no_fault begun part fault = record {
  count = begun.0;
  less = begun.1;
  begun = begun.2;
  offered = part;
  fault = fault;
}
