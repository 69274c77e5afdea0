use Rattle.coordinator.proofs.Places.{here, on_err, on_ok, put_full, put_ok}
use Rattle.coordinator.proofs.outs.Outs.put.Goals as goal

pub put-requires : goal.put-requires
put-requires g c = c.requires.steady _ (here g.T.Tx.state
    c.self.inside.endpoints.items c.args.place c.index_mut.result.now c.args.self.now c.self.view_is c.requires.place c.index_mut.ensures.value)

pub returns-clause-put : goal.returns-clause-put
returns-clause-put g c = on_ok _ _ c.put.result c.put.ensures.put (λ p.
    put_ok g.T.Tx.state
    c.self.inside.endpoints.items c.args.place c.put.new.self c.index_mut.result.now c.args.self.now c.args.item c.self.view_is c.requires.place c.index_mut.ensures.value p)

pub returns-clause-full : goal.returns-clause-full
returns-clause-full g c = on_err _ _ c.put.result c.put.ensures.refused (λ back r. (
  r.0,
  put_full g.T.Tx.state
      c.self.inside.endpoints.items c.args.place c.put.new.self c.index_mut.result.now c.args.self.now c.self.view_is c.requires.place c.index_mut.ensures.value r.1,
))
