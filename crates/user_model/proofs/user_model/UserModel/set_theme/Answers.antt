use Rattle.std.proofs.Common.{refl}
use Rattle.user_model.proofs.user_model.UserModel.set_theme.Goals as goal

pub put_setting-requires : goal.put_setting-requires
put_setting-requires g c = refl
