-- The word for a set of servers, one member after another.
use Rattle.std.proofs.Common.{◌≡◌, ℕ, zero, suc, ◌+◌, ◌<◌, Bool, true, false, eqb, cond, List, [], ◌∷◌, ◌++◌, length, map, refl, ap, sym, ◌∙◌, arith, append_assoc, append-nil}
use Rattle.std.specs.List.{join_with_byte}
use Rattle.std.proofs.lemmas.List.{length-map, map_push}
use Rattle.std.proofs.lemmas.Bool.Decides.{nat_tests}
use Rattle.lb_types.specs.Servers.{has, members_below, members}
use Rattle.lb_types.proofs.Sets.{has-empty}
use Rattle.lb_desk_model.specs.declared.backend.BackendServer.{BackendServer}
use Rattle.dual_cert_write.proofs.Joins.{join-push}
use Rattle.lb_answers.specs.Names.{server_word}
use Rattle.lb_answers.specs.Tables.{want_word}

-- the words of the set's members below a number
abbrev pub words_below : (ℕ → List ℕ) → ℕ → ℕ → List ℕ
words_below word i set = join_with_byte 44 (map word (members_below i set))

-- one number more, behind some members
pub words-more : (word : ℕ → List ℕ) (i set : ℕ) → 0 < length (members_below i set) → words_below word (i + 1) set ≡ words_below word i set ++ cond (has set i) (44 ∷ word i) []
unfolding members_below
words-more word i set some =
    let e : i + 1 ≡ suc i = omega arith in
    rw e (by_case (has set i))
  where
    nonempty : 0 < length (map word (members_below i set))
    nonempty = omega (arith, length-map (members_below i set) word)

    by_case : (b : Bool) → join_with_byte 44 (map word (members_below i set ++ cond b (i ∷ []) [])) ≡ words_below word i set ++ cond b (44 ∷ word i) []
    by_case true = ap (join_with_byte 44) (map_push word (members_below i set) i) ∙ join-push 44 (map word (members_below i set)) (word i) nonempty ∙ append_assoc (words_below word i set) (44 ∷ []) (word i)
    by_case false = ap (λ l. join_with_byte 44 (map word l)) (append-nil (members_below i set)) ∙ sym (append-nil (words_below word i set))

not_empty : (set server : ℕ) → has set server ≡ true → eqb set 0 ≡ false
not_empty zero server held = absurd (let e : false ≡ true = sym (has-empty server) ∙ held in cc)
not_empty (suc set) server held = grind (arith, nat_tests)

-- the word for a set that has a server
pub want_word-words : (servers : List BackendServer) (want server : ℕ) → has want server ≡ true → want_word servers want ≡ words_below (λ s. server_word servers s) 128 want
unfolding want_word members
want_word-words servers want server held = rw (not_empty want server held) refl
