use Rattle.grid_wire.proofs.keys.put_place_map.Goals as goal

pub returns-clause-fits : goal.returns-clause-fits
returns-clause-fits g c = λ known. c.in_ok-put_map.ensures.fits (λ key inside. inside) known
