use Rattle.std.proofs.Common.{◌≡◌, ◌++◌, ◌-◌, ◌≤◌, true, List, ℕ, take, drop, replicate, length, sym, ◌∙◌, refl, arith, length-append, take_at}
use Rattle.std.proofs.lemmas.List.{drop_at, length-replicate}
use Rattle.lb_types.specs.Names.{is_name}
use Rattle.lb_types.specs.NameFields.{padded, IsNameFields}
use Rattle.lb_types.proofs.Names.{is_name-from_tests, name_of-from_tests}
use Rattle.lb_types.proofs.name.Name.read.Goals as goal

take-padded : (bytes : List ℕ) → take (length bytes) (padded bytes) ≡ bytes
unfolding padded
take-padded bytes = take_at bytes (replicate (64 - length bytes) 0) (length bytes) refl

-- the bytes of a name, padded
stored : (bytes : List ℕ) → length bytes ≤ 64 → is_name bytes ≡ true → IsNameFields (padded bytes) (length bytes)
unfolding padded
stored bytes short name = record {
  within = short;
  whole = omega (arith, length-append bytes (replicate (64 - length bytes) 0), length-replicate {A = ℕ} (64 - length bytes) 0);
  zeros = drop_at bytes (replicate (64 - length bytes) 0) (length bytes) refl;
  name = rw (take-padded bytes) name;
}

pub invariant_of-result : goal.invariant_of-result
invariant_of-result c =
    let bytes = c.args.bytes.now in
    let lawful = sym c.is_lawful.ensures ∙ c.if-not-is_lawful.false in
    let some = sym c.is_empty.ensures ∙ c.if-is_empty.false in
    let name = is_name-from_tests bytes some c.if-bytes-gt-MAX_NAME_BYTES.false lawful in
    rw c.padded.ensures (stored bytes c.if-bytes-gt-MAX_NAME_BYTES.false name)

pub returns : goal.returns
returns c =
    let bytes = c.args.bytes.now in
    let lawful = sym c.is_lawful.ensures ∙ c.if-not-is_lawful.false in
    let some = sym c.is_empty.ensures ∙ c.if-is_empty.false in
    rw (c.padded.ensures, take-padded bytes) (sym (name_of-from_tests bytes some c.if-bytes-gt-MAX_NAME_BYTES.false lawful))
