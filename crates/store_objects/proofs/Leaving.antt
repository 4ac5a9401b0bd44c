-- What calls on what is open leave of nodes: the tree, which of its nodes are open, and the names of sockets.
use Rattle.std.proofs.Common.{◌≡◌, ℕ, zero, suc, ◌+◌, ◌++◌, [], ◌∷◌, length, Option, None, Some, unwrap_or, refl, ap, sym, ◌∙◌, subst, arith, length-append}
use Rattle.std.specs.Option.{option_map}
use Rattle.std.proofs.lemmas.List.{get_or_past}
use Rattle.posix_defs.specs.Answer.{Answer, Blocked, Done, Ended, Part}
use Rattle.posix_defs.specs.Calls.Opened.{Opened, opened_by}
use Rattle.posix_defs.specs.Files.Descriptions.{Description, Descriptions, description_at}
use Rattle.posix_defs.specs.Files.Descriptors.{Descriptor}
use Rattle.posix_defs.specs.Files.State.{Files, beside, node_of, nodes_among, opened_nodes}
use Rattle.posix_defs.specs.Socket.{Socket, connected_to, new_socket}
use Rattle.posix_defs.specs.Sockets.{Sockets, socket_at, with_new, with_pair, with_socket}
use Rattle.proc_files.proofs.Openings.{OpenTheSame, all_same, same_nodes}
use Rattle.socket_laws.proofs.SocketTable.{with-length}

-- The tree is the same, and so are which nodes are open and which node each socket is bound to.
pub record LeavesNodes (files next : Files) : Type 0 where
  pub tree : next.tree ≡ files.tree
  pub opens : opened_nodes next ≡ opened_nodes files
  pub names : (place : ℕ) → (socket_at next.sockets place).node ≡ (socket_at files.sockets place).node

-- the files after an answer
abbrev pub files_in : Files → Answer → Files
files_in files Blocked = files
files_in files (Done reply next) = next.files
files_in files (Part moved next) = next.files
files_in files (Ended status next) = next.files

-- ---- descriptions

-- the description that a number names is there
pub opened_there : (files : Files) (o : Option Descriptor) (opened : Opened) → opened_by files o ≡ Some opened → description_at files.descriptions opened.place ≡ Some opened.is
opened_there files None opened e = cc
opened_there files (Some descriptor) opened e = by_description (description_at files.descriptions descriptor.description) refl e
  where
    named : Description → Opened
    named description = record { place = descriptor.description; is = description }

    same : (description : Description) → Some (named description) ≡ Some opened → named description ≡ opened
    same description e = cc

    by_description : (o : Option Description) → description_at files.descriptions descriptor.description ≡ o
        → option_map (λ description. record { place = descriptor.description; is = description }) o ≡ Some opened
        → description_at files.descriptions opened.place ≡ Some opened.is
    by_description None is e = cc
    by_description (Some description) is e =
        subst (λ (one : Opened). description_at files.descriptions one.place ≡ Some one.is) (same description e) is

-- the same descriptions open the same nodes, where pipes are the same
pub same_opened : (files next : Files) → next.descriptions ≡ files.descriptions → next.pipes ≡ files.pipes → opened_nodes next ≡ opened_nodes files
same_opened files next same pipes = ap (nodes_among next) same ∙ same_nodes next files files.descriptions (all_same next files files.descriptions pipes)

-- and so they do where one of what has no node came behind them
pub nodes_behind : (one other : Files) (list : Descriptions) (made : Description) → node_of one made.target ≡ None → OpenTheSame one other list
    → nodes_among one (list ++ Some made ∷ []) ≡ nodes_among other list
nodes_behind one other [] made none each = ap (λ o. beside o []) none
nodes_behind one other (None ∷ list) made none each = nodes_behind one other list made none (λ place. each (suc place))
nodes_behind one other (Some d ∷ list) made none each =
    ap (λ o. beside o (nodes_among one (list ++ Some made ∷ []))) (each zero d refl)
    ∙ ap (beside (node_of other d.target)) (nodes_behind one other list made none (λ place. each (suc place)))

-- ---- names of sockets

nobody : (sockets : Sockets) (place : ℕ) → sockets ≡ [] → (socket_at sockets place).node ≡ None
nobody sockets place none =
    ap (λ (list : Sockets). (socket_at list place).node) none ∙ ap (λ (o : Option Socket). (unwrap_or o new_socket).node) (get_or_past [] place None (omega arith))

-- where a socket becomes another that is bound to the same node each is bound as it was
pub same_named : (sockets : Sockets) (place : ℕ) (socket : Socket) → socket.node ≡ (socket_at sockets place).node → (other : ℕ)
    → (socket_at (with_socket sockets place (Some socket)) other).node ≡ (socket_at sockets other).node
same_named [] place socket same zero = same ∙ nobody [] place refl ∙ sym (nobody [] zero refl)
same_named [] place socket same (suc other) = nobody [] other refl ∙ sym (nobody [] (suc other) refl)
same_named (first ∷ rest) zero socket same zero = same
same_named (first ∷ rest) zero socket same (suc other) = refl
same_named (first ∷ rest) (suc place) socket same zero = refl
same_named (first ∷ rest) (suc place) socket same (suc other) = same_named rest place socket same other

-- none is bound behind the last
past : (sockets : Sockets) (place : ℕ) → length sockets + 0 ≡ place → None ≡ (socket_at sockets place).node
past sockets place is = sym (ap (λ (o : Option Socket). (unwrap_or o new_socket).node) (get_or_past sockets place None (omega (arith, is))))

-- so it is where one is made, or two are
pub new_named : (sockets : Sockets) (place : ℕ) → (socket_at (with_new sockets (length sockets)) place).node ≡ (socket_at sockets place).node
new_named sockets place = same_named sockets (length sockets) new_socket (past sockets (length sockets) (omega arith)) place

pub pair_named : (sockets : Sockets) (place : ℕ) → (socket_at (with_pair sockets (length sockets) (length sockets + 1)) place).node ≡ (socket_at sockets place).node
pair_named sockets place =
    let one = connected_to (length sockets + 1) in
    let first = with_socket sockets (length sockets) (Some one) in
    let long : length first + 0 ≡ length sockets + 1 = (let is = ap length (with-length sockets (Some one)) in let more = length-append sockets (Some one ∷ []) in
    let single : length (Some one ∷ []) ≡ 1 = refl in omega (arith, is, more, single)) in
    same_named first (length sockets + 1) (connected_to (length sockets)) (past first (length sockets + 1) long) place
    ∙ same_named sockets (length sockets) one (past sockets (length sockets) (omega arith)) place
