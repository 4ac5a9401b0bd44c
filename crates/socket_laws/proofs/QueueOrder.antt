-- What goes through a queue comes out in its order.
use Rattle.std.proofs.Common.{◌≡◌, ℕ, List, [], ◌∷◌, ◌++◌, take, drop, sym, ap, ◌∙◌, append_assoc}
use Rattle.std.proofs.lemmas.List.{append-nil, take-append-drop}
use Rattle.socket_laws.specs.QueueRuns.{QueueStep, Puts, Takes, left_after, put_in, taken_out}

pub order_kept : (bytes : List ℕ) (steps : List QueueStep) → bytes ++ put_in steps ≡ taken_out bytes steps ++ left_after bytes steps
order_kept bytes [] = append-nil bytes
order_kept bytes (Puts more ∷ steps) = sym (append_assoc bytes more (put_in steps)) ∙ order_kept (bytes ++ more) steps
order_kept bytes (Takes n ∷ steps) =
    ap (λ list. list ++ put_in steps) (sym (take-append-drop n bytes)) ∙ append_assoc (take n bytes) (drop n bytes) (put_in steps)
    ∙ ap (λ list. take n bytes ++ list) (order_kept (drop n bytes) steps) ∙ sym (append_assoc (take n bytes) (taken_out (drop n bytes) steps) (left_after (drop n bytes) steps))
