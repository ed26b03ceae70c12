mod Pushed
