-- `listing::put_record`: the letter, the arguments, a tab, the reply and a line feed.
use Rattle.std.proofs.Common.{◌≡◌, ◌≤◌, length, arith, rules}
use Rattle.std.proofs.lemmas.List.{length-take}
use Rattle.listing.proofs.Laws.Lines.{line_put}
use Rattle.listing.proofs.Laws.Shapes.{few_arguments, short}
use Rattle.listing.proofs.put_record.Goals as goal

pub push-requires-3 : goal.push-requires-3
push-requires-3 g c =
    let r = c.args.content.now in
    let count = c.argument_count-count in (
      search rules,
      omega (
        arith,
        c.requires.room,
        short r c.requires.shape,
        count.ensures,
        length-take count.result r.arguments,
        c.push.ensures.len,
        c.put_spaced.ensures.few,
        c.push-2.ensures.len,
        c.put_reply.ensures.few,
      ),
    )

pub returns : goal.returns
returns g c =
    let r = c.args.content.now in
    let count = c.argument_count-count in
    let all : length r.arguments ≡ 65 = search rules in
    let within : count.result ≤ length r.arguments =
    omega (arith, count.ensures, few_arguments r c.requires.shape) in
    record {
      text =
          line_put c.args.out.now.items r count.ensures within c.push.ensures.items c.put_spaced.ensures.text
          c.push-2.ensures.items c.put_reply.ensures.text c.push-3.ensures.items;
      few =
          omega (
            arith,
            short r c.requires.shape,
            count.ensures,
            length-take count.result r.arguments,
            c.push.ensures.len,
            c.put_spaced.ensures.few,
            c.push-2.ensures.len,
            c.put_reply.ensures.few,
            c.push-3.ensures.len,
          );
    }
