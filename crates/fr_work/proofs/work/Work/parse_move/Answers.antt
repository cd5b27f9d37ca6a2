use Rattle.fr_work.proofs.ParseLaws.{put_meant, put_so}
use Rattle.fr_work.proofs.work.Work.parse_move.Goals as goal

pub returns-in-Ok-clause-meant : goal.returns-in-Ok-clause-meant
returns-in-Ok-clause-meant g c =
    put_meant c.place.ensures.seen (g.H.Hooks.means c.args.hooks.now) c.law_sound.ensures.checked
    (c.law_hooks.ensures.lawful c.args.hooks.now) c.in-Ok.value c.args.input c.in-Ok.ensures.meaning

pub returns-in-Ok-clause-decides : goal.returns-in-Ok-clause-decides
returns-in-Ok-clause-decides g c =
    put_so c.place.ensures.seen (g.H.Hooks.means c.args.hooks.now) c.law_sound.ensures.checked
    (c.law_hooks.ensures.lawful c.args.hooks.now) c.in-Ok.value c.args.input c.in-Ok.ensures.meaning
