-- How a chunked body is carried through a room, one part after another.
use Rattle.std.proofs.Common.{◌≡◌, ◌⊎◌, inl, inr, ℕ, ◌+◌, ◌<◌, ◌≤◌, List, [], ◌++◌, length, length-append, take, drop, take-append-drop, Option, Result, Ok, Err, IsErrAnd, OnOk, OnErr, refl, ap, sym, ◌∙◌, subst, arith, append_assoc, append-nil}
use Rattle.std.proofs.lemmas.List.{take-append-le, drop-append-le, drop-drop}
use Rattle.std.proofs.Math.Seq.{take-add}
use Rattle.std.specs.Io.KnownBytes.{append_known}
use Rattle.http_relay_wire.specs.Wires.{Reading, AppendsBeginning}
use Rattle.http_relay_wire.proofs.KnownBytes.{append_twice}
use Rattle.http_relay_body.specs.declared.fault.BodyFault.{BodyFault}
use Rattle.http_relay_body.specs.declared.fault.BodyFault.TheVariants.{Truncated, Client, Server, BadChunk}
use Rattle.http_relay_body.specs.Moves.{Taken, Begins, NeverBegins, MayBecome, Answers, Moved, IsServerFault}
use Rattle.http_relay_body.proofs.Moves.{Finishes, take_nothing, take_twice, append_nothing, begins_with_nothing, begins_later, answers_later, told_err, part_sent, part_unsent}
use Rattle.http_relay_body.specs.Rooms.{RoomView, Stand, stand, takes_left, Carried, Stopped, Passed, NoneCame, Took, Fetched}

-- nothing was carried
pub carry_nothing : (at : Stand) → Carried at at []
carry_nothing at = record {
  text = [];
  out = [];
  taken = take_nothing at.hand at.reading.unread;
  came = append-nil at.room.ahead;
  sent = sym (append_nothing at.written);
  kept = sym (append-nil at.room.judged);
  used = inl (refl, refl);
}

used_twice : (s t : List ℕ) (a b c : ℕ) → ((s ≡ []) × (b ≡ a)) ⊎ (b < a) → ((t ≡ []) × (c ≡ b)) ⊎ (c < b) → ((s ++ t ≡ []) × (c ≡ a)) ⊎ (c < a)
used_twice s t a b c (inl x) (inl y) = inl (ap (λ xs. xs ++ t) x.0 ∙ y.0, y.1 ∙ x.1)
used_twice s t a b c (inl x) (inr y) = inr (omega (arith, x.1, y))
used_twice s t a b c (inr x) (inl y) = inr (omega (arith, y.1, x))
used_twice s t a b c (inr x) (inr y) = inr (omega (arith, x, y))

-- what came is what was judged first and what came behind that
came_twice : (ahead s t first mid : List ℕ) → ahead ++ s ≡ first ++ mid → ahead ++ (s ++ t) ≡ first ++ (mid ++ t)
came_twice ahead s t first mid e = sym (append_assoc ahead s t) ∙ ap (λ xs. xs ++ t) e ∙ append_assoc first mid t

-- what was carried twice was carried
pub carry_twice : (old mid new : Stand) (first second : List ℕ) → Carried old mid first → Carried mid new second → Carried old new (first ++ second)
carry_twice old mid new first second x y = record {
  text = x.text ++ y.text;
  out = x.out ++ y.out;
  taken = take_twice old.hand mid.hand new.hand old.reading.unread mid.reading.unread new.reading.unread x.text y.text x.taken y.taken;
  came = came_twice old.room.ahead x.text y.text first mid.room.ahead x.came ∙ ap (λ xs. first ++ xs) y.came ∙ sym (append_assoc first second new.room.ahead);
  sent = y.sent ∙ ap (λ known. append_known known y.out) x.sent ∙ append_twice old.written x.out y.out;
  kept = append_assoc x.out y.out new.room.judged ∙ ap (λ xs. x.out ++ xs) y.kept ∙ sym (append_assoc x.out mid.room.judged second)
      ∙ ap (λ xs. xs ++ second) x.kept ∙ append_assoc old.room.judged first second;
  used = used_twice x.text y.text (takes_left old) (takes_left mid) (takes_left new) x.used y.used;
}

-- the next bytes ahead were judged
pub carry_judged : (hand : List ℕ) (reading : Reading) (written : Option (List ℕ)) (room next : RoomView) (count : ℕ)
    → next ≡ record { judged = room.judged ++ take count room.ahead; ahead = drop count room.ahead }
    → Carried (record { hand = hand; reading = reading; written = written; room = room }) (record { hand = hand; reading = reading; written = written; room = next }) (take count room.ahead)
carry_judged hand reading written room next count is = record {
  text = [];
  out = [];
  taken = take_nothing hand reading.unread;
  came = append-nil room.ahead ∙ sym (take-append-drop count room.ahead) ∙ ap (λ (xs : List ℕ). take count room.ahead ++ xs) (sym (ap (λ (r : RoomView). r.ahead) is));
  sent = sym (append_nothing written);
  kept = ap (λ (r : RoomView). r.judged) is;
  used = inl (refl, refl);
}

-- a fault behind what was carried speaks of the whole
pub stopped_later : {A B : Type 0} (P : A → List ℕ → Type 0) (Q : B → List ℕ → Type 0) (old mid new : Stand) (done : List ℕ) (fault : BodyFault)
    → Carried old mid done → ((rest : List ℕ) → Begins P (done ++ rest) → Begins Q rest) → Finishes P Q done → Stopped Q mid new fault → Stopped P old new fault
stopped_later P Q old mid new done fault x skip ends y =
    let came : old.room.ahead ++ (x.text ++ y.text) ≡ done ++ (mid.room.ahead ++ y.text) = came_twice old.room.ahead x.text y.text done mid.room.ahead x.came in
    let behind = mid.room.ahead ++ y.text in
    let all : x.out ++ (mid.room.judged ++ behind) ≡ old.room.judged ++ (old.room.ahead ++ (x.text ++ y.text)) =
    sym (append_assoc x.out mid.room.judged behind) ∙ ap (λ xs. xs ++ behind) x.kept ∙ append_assoc old.room.judged done behind ∙ ap (λ xs. old.room.judged ++ xs) (sym came) in
    record {
      text = x.text ++ y.text;
      taken = take_twice old.hand mid.hand new.hand old.reading.unread mid.reading.unread new.reading.unread x.text y.text x.taken y.taken;
      answers = subst (λ text. Answers P text new.hand new.reading (Err fault)) (sym came) (answers_later P Q done behind new.hand new.reading fault skip ends y.answers);
      beginning = subst (λ text. AppendsBeginning old.written new.written text) all
          (begins_later old.written mid.written new.written x.out (mid.room.judged ++ behind) x.sent y.beginning);
    }

-- no part can follow
pub stopped_bad : {A : Type 0} (P : A → List ℕ → Type 0) (at : Stand) → NeverBegins P at.room.ahead → Stopped P at at BadChunk
stopped_bad P at never = record {
  text = [];
  taken = take_nothing at.hand at.reading.unread;
  answers = subst (NeverBegins P) (sym (append-nil at.room.ahead)) never;
  beginning = begins_with_nothing at.written (at.room.judged ++ (at.room.ahead ++ []));
}

none_answers : {A : Type 0} (P : A → List ℕ → Type 0) (text left : List ℕ) (reading : Reading) (fault : BodyFault)
    → ¬ Begins P text → MayBecome P text → NoneCame left reading fault → Answers P text left reading (Err fault)
none_answers P text left reading Truncated none may why = (why, none, may)
none_answers P text left reading (Client fault) none may why = (why, none, may)
none_answers P text left reading (Server fault) none may why = tt
none_answers P text left reading BadChunk none may why = absurd why

-- a beginning of a beginning
begins_within : (before after : Option (List ℕ)) (text more : List ℕ) → AppendsBeginning before after text → AppendsBeginning before after (text ++ more)
begins_within before after text more (front, rest, parted, grown) = (front, rest ++ more, ap (λ xs. xs ++ more) parted ∙ append_assoc front rest more, grown)

-- the next bytes of a part didn't come
pub stopped_short : {A : Type 0} (P : A → List ℕ → Type 0) (most : ℕ) (old new : Stand) (fault : BodyFault)
    → ¬ Begins P old.room.ahead → MayBecome P old.room.ahead → Fetched most old new (Err fault) → Stopped P old new fault
stopped_short P most old new fault none may (taken, beginning, why) = record {
  text = [];
  taken = taken;
  answers = none_answers P (old.room.ahead ++ []) new.hand new.reading fault (subst (λ text. ¬ Begins P text) (sym (append-nil old.room.ahead)) none)
      (subst (λ text. MayBecome P text) (sym (append-nil old.room.ahead)) may) why;
  beginning = begins_within old.written new.written old.room.judged (old.room.ahead ++ []) beginning;
}

-- a fault that a question mark hands on
pub handed : {A : Type 0} (P : A → List ℕ → Type 0) (old new : Stand) (answer : Result A BodyFault) (fault : BodyFault)
    → IsErrAnd answer (λ told. told ≡ fault) → Stopped P old new fault → Passed P old new answer
handed P old new answer fault same stopped = subst (λ told. Passed P old new told) (sym (told_err answer fault same)) stopped

-- a fault behind what was carried, handed on
pub handed_later : {A B : Type 0} (P : A → List ℕ → Type 0) (Q : B → List ℕ → Type 0) (old mid new : Stand) (done : List ℕ) (answer : Result A BodyFault) (fault : BodyFault)
    → IsErrAnd answer (λ told. told ≡ fault) → Carried old mid done → ((rest : List ℕ) → Begins P (done ++ rest) → Begins Q rest) → Finishes P Q done
    → Stopped Q mid new fault → Passed P old new answer
handed_later P Q old mid new done answer fault same x skip ends y = handed P old new answer fault same (stopped_later P Q old mid new done fault x skip ends y)

-- what was carried makes a part with what follows it
pub passed_later : {A B : Type 0} (P : A → List ℕ → Type 0) (Q : B → List ℕ → Type 0) (old mid new : Stand) (done : List ℕ) (value : A) (later : B)
    → Carried old mid done → ((rest : List ℕ) → Q later rest → P value (done ++ rest)) → Passed Q mid new (Ok later) → Passed P old new (Ok value)
passed_later P Q old mid new done value later x joins (rest, part, y) = (done ++ rest, joins rest part, carry_twice old mid new done rest x y)

-- ---- a room's bytes

-- a room with these
abbrev pub room_of : List ℕ → List ℕ → RoomView
room_of judged ahead = record { judged = judged; ahead = ahead }

same_room : (a b c d : List ℕ) → a ≡ b → c ≡ d → room_of a c ≡ room_of b d
same_room a b c d e f = ap (λ x. room_of x c) e ∙ ap (λ x. room_of b x) f

-- more of the bytes are judged
pub room_judged : (all : List ℕ) (judged count : ℕ)
    → room_of (take (judged + count) all) (drop (judged + count) all) ≡ room_of (take judged all ++ take count (drop judged all)) (drop count (drop judged all))
room_judged all judged count = same_room _ _ _ _ (take-add judged count all) (sym (drop-drop count judged all))

-- what was judged is gone
pub room_sent : (bytes all : List ℕ) (judged count : ℕ) → take count bytes ≡ drop judged all → room_of (take 0 (take count bytes)) (drop 0 (take count bytes)) ≡ room_of [] (drop judged all)
room_sent bytes all judged count is = same_room _ _ _ _ refl is

-- more bytes stand behind
pub room_grown : (bytes all text : List ℕ) (judged count : ℕ) → judged ≤ length all → take count bytes ≡ all ++ text
    → room_of (take judged (take count bytes)) (drop judged (take count bytes)) ≡ room_of (take judged all) (drop judged all ++ text)
room_grown bytes all text judged count within is =
    same_room _ _ _ _ (ap (take judged) is ∙ take-append-le judged all text within) (ap (drop judged) is ∙ drop-append-le judged all text within)

-- how many bytes there are in both
pub room_size : (all : List ℕ) (judged : ℕ) → length (take judged all) + length (drop judged all) ≡ length all
room_size all judged = sym (length-append (take judged all) (drop judged all)) ∙ ap length (take-append-drop judged all)

-- ---- fetching

-- bytes were taken, or not, once a front of what was judged went out
pub fetched : (most : ℕ) (hand left : List ℕ) (old new : Reading) (before mid : Option (List ℕ)) (room between end : RoomView) (out : List ℕ) (answer : Result (Unit {0}) BodyFault)
    → mid ≡ append_known before out → out ++ between.judged ≡ room.judged → between.ahead ≡ room.ahead → Took most hand left old new between end answer
    → Fetched most (stand hand old before room) (stand left new mid end) answer
fetched most hand left old new before mid room between end out (Ok value) sent kept same (text, (taken, few, fewer), is) = (
  record {
    text = text;
    out = out;
    taken = taken;
    came = ap (λ xs. xs ++ text) (sym same) ∙ sym (ap (λ (r : RoomView). r.ahead) is);
    sent = sent;
    kept = ap (λ (r : RoomView). out ++ r.judged) is ∙ kept ∙ sym (append-nil room.judged);
    used = inr fewer;
  },
  (text, ap (λ (r : RoomView). r.ahead) is ∙ ap (λ xs. xs ++ text) same, few),
  fewer,
)
fetched most hand left old new before mid room between end out (Err fault) sent kept same (taken, why) =
    (taken, (out, between.judged, sym kept, sent), why)

server_none : (hand : List ℕ) (reading : Reading) (fault : BodyFault) → IsServerFault {A = Unit {0}} (Err fault) → NoneCame hand reading fault
server_none hand reading Truncated cause = absurd cause
server_none hand reading BadChunk cause = absurd cause
server_none hand reading (Client fault) cause = absurd cause
server_none hand reading (Server fault) cause = tt

-- what was judged couldn't be written
pub unfetched : (most : ℕ) (hand : List ℕ) (reading : Reading) (before after : Option (List ℕ)) (room end : RoomView) (answer : Result (Unit {0}) BodyFault) (fault : BodyFault)
    → IsErrAnd answer (λ told. told ≡ fault) → IsServerFault {A = Unit {0}} (Err fault) → AppendsBeginning before after room.judged
    → Fetched most (stand hand reading before room) (stand hand reading after end) answer
unfetched most hand reading before after room end answer fault same cause beginning =
    subst (λ told. Fetched most (stand hand reading before room) (stand hand reading after end) told) (sym (told_err answer fault same))
    (take_nothing hand reading.unread, beginning, server_none hand reading fault cause)

-- ---- a whole body

-- a fault inside a body whose room was empty at first
pub moved_not : {A : Type 0} (P : A → List ℕ → Type 0) (hand left : List ℕ) (old new : Reading) (before after : Option (List ℕ)) (end : RoomView) (answer : Result A BodyFault) (fault : BodyFault)
    → IsErrAnd answer (λ told. told ≡ fault) → Stopped P (stand hand old before (room_of [] [])) (stand left new after end) fault → Moved P hand left old new before after answer
moved_not P hand left old new before after end answer fault same stopped =
    subst (λ told. Moved P hand left old new before after told) (sym (told_err answer fault same))
    (record { text = stopped.text; taken = stopped.taken; answers = stopped.answers; sent = tt; beginning = stopped.beginning })

-- nothing stands ahead: what was taken is what was judged
taken_all : (hand left : List ℕ) (old new : Reading) (before mid : Option (List ℕ)) (end : RoomView) (done : List ℕ)
    → Carried (stand hand old before (room_of [] [])) (stand left new mid end) done → end.ahead ≡ [] → Taken hand left old.unread new.unread done
taken_all hand left old new before mid end done carried none =
    subst (λ text. Taken hand left old.unread new.unread text) (carried.came ∙ ap (λ xs. done ++ xs) none ∙ append-nil done) carried.taken

-- what was judged last goes out, or not
pub moved_last : {A : Type 0} (P : A → List ℕ → Type 0) (hand left : List ℕ) (old new : Reading) (before mid after : Option (List ℕ)) (end : RoomView) (done : List ℕ) (answer : Result A BodyFault)
    → ((value : A) → P value done) → Carried (stand hand old before (room_of [] [])) (stand left new mid end) done → end.ahead ≡ [] → IsServerFault answer
    → OnOk answer (after ≡ append_known mid end.judged) → OnErr answer (AppendsBeginning mid after end.judged) → Moved P hand left old new before after answer
moved_last P hand left old new before mid after end done (Ok value) part carried none cause ok err =
    part_sent P hand left old new before after value done (taken_all hand left old new before mid end done carried none) (part value)
    (ok ∙ ap (λ known. append_known known end.judged) carried.sent ∙ append_twice before carried.out end.judged ∙ ap (append_known before) carried.kept)
moved_last P hand left old new before mid after end done (Err Truncated) part carried none cause ok err = absurd cause
moved_last P hand left old new before mid after end done (Err BadChunk) part carried none cause ok err = absurd cause
moved_last P hand left old new before mid after end done (Err (Client fault)) part carried none cause ok err = absurd cause
moved_last P hand left old new before mid after end done (Err (Server fault)) part carried none cause ok err =
    part_unsent P hand left old new before after done fault (taken_all hand left old new before mid end done carried none)
    (subst (λ text. AppendsBeginning before after text) carried.kept (begins_later before mid after carried.out end.judged carried.sent err))
