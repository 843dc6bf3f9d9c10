use Rattle.std.proofs.Common.{[], ◌∷◌, ◌++◌, ap, ◌∙◌, arith}
use Rattle.lb_desk_tie.specs.Rule.{pass_view, list_of, sights_in, hand_back, first_pass}
use Rattle.lb_desk_tie.proofs.Moves.{joins, handed_alone, pass_is, counts_as, counted_is, cuts_as, sound_is}
use Rattle.lb_desk_tie.proofs.steps.tell.Goals as goal

pub into_seat-requires : goal.into_seat-requires
into_seat-requires g c = (pass_view (list_of c.args.pass.views) (sights_in c.args.pass.views), c.requires.pass)

pub join_seat-requires : goal.join_seat-requires
join_seat-requires g c =
    let other = c.into_seat.ensures in
    (c.requires.table, other.0 ∙ c.requires.pass_table ∙ c.requires.table, other.3, omega (arith, c.requires.one_word), joins _ _ _ _ (ap (λ m. m.0.keeps) c.requires.keeper))

pub compare_exchange_with-requires : goal.compare_exchange_with-requires
compare_exchange_with-requires g c =
    let old = c.args.seat.now.me.0 in
    let list = list_of c.args.pass.views in
    let seen = sights_in c.args.pass.views in
    let joined = c.join_seat.ensures.2 ∙ handed_alone c.args.seat.now.me c.into_seat.result.me.0 old.history old.passes list seen c.requires.keeper (pass_is c.args.pass.views c.into_seat.result.me.0 c.into_seat.ensures.2 c.requires.pass) in
    (c.join_seat.ensures.0 ∙ c.requires.table, omega (arith, c.requires.one_word), counts_as _ _ c.join_seat.new.seat.me old.history old.passes list [] seen c.args.number c.args.entry.now joined c.requires.number)

pub split_seat-requires : goal.split_seat-requires
split_seat-requires g c =
    let old = c.args.seat.now.me.0 in
    let list = list_of c.args.pass.views in
    let seen = sights_in c.args.pass.views in
    let joined = c.join_seat.ensures.2 ∙ handed_alone c.args.seat.now.me c.into_seat.result.me.0 old.history old.passes list seen c.requires.keeper (pass_is c.args.pass.views c.into_seat.result.me.0 c.into_seat.ensures.2 c.requires.pass) in
    let counted = counted_is 0 c.join_seat.new.seat.me c.compare_exchange_with.new.seat.me old.history old.passes list [] seen c.args.number c.compare_exchange_with.result c.args.entry.now joined c.compare_exchange_with.ensures.2 in (
      c.compare_exchange_with.ensures.0 ∙ c.join_seat.ensures.0 ∙ c.requires.table,
      omega (arith, c.requires.one_word),
      cuts_as _ c.compare_exchange_with.new.seat.me.0 (old.history ++ c.args.entry.now ∷ []) old.passes (list ++ (c.args.number, c.args.entry.now) ∷ []) [] seen (ap (λ m. m.0) counted),
    )

pub returns-clause-keeper : goal.returns-clause-keeper
returns-clause-keeper g c =
    let old = c.args.seat.now.me.0 in
    let list = list_of c.args.pass.views in
    let seen = sights_in c.args.pass.views in
    let joined = c.join_seat.ensures.2 ∙ handed_alone c.args.seat.now.me c.into_seat.result.me.0 old.history old.passes list seen c.requires.keeper (pass_is c.args.pass.views c.into_seat.result.me.0 c.into_seat.ensures.2 c.requires.pass) in
    let counted = counted_is 0 c.join_seat.new.seat.me c.compare_exchange_with.new.seat.me old.history old.passes list [] seen c.args.number c.compare_exchange_with.result c.args.entry.now joined c.compare_exchange_with.ensures.2 in
    c.split_seat.ensures.2 ∙ ap (λ m. (hand_back m.0, m.1)) counted

pub returns-clause-pass : goal.returns-clause-pass
returns-clause-pass g c =
    let old = c.args.seat.now.me.0 in
    let list = list_of c.args.pass.views in
    let seen = sights_in c.args.pass.views in
    let joined = c.join_seat.ensures.2 ∙ handed_alone c.args.seat.now.me c.into_seat.result.me.0 old.history old.passes list seen c.requires.keeper (pass_is c.args.pass.views c.into_seat.result.me.0 c.into_seat.ensures.2 c.requires.pass) in
    let counted = counted_is 0 c.join_seat.new.seat.me c.compare_exchange_with.new.seat.me old.history old.passes list [] seen c.args.number c.compare_exchange_with.result c.args.entry.now joined c.compare_exchange_with.ensures.2 in
    c.into_badge.ensures.2 ∙ ap (λ m. m.0 ∷ []) c.split_seat.ensures.4 ∙ ap (λ m. first_pass m.0 ∷ []) counted

pub returns-clause-sound : goal.returns-clause-sound
returns-clause-sound g c =
    let old = c.args.seat.now.me.0 in
    let list = list_of c.args.pass.views in
    let seen = sights_in c.args.pass.views in
    let joined = c.join_seat.ensures.2 ∙ handed_alone c.args.seat.now.me c.into_seat.result.me.0 old.history old.passes list seen c.requires.keeper (pass_is c.args.pass.views c.into_seat.result.me.0 c.into_seat.ensures.2 c.requires.pass) in
    sound_is c.join_seat.new.seat.me old.history old.passes list seen joined c.compare_exchange_with.ensures.2.2
